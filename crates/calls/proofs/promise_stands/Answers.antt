-- Each theorem by its name.
use Rattle.std.proofs.Common.{refl}
use Rattle.calls.proofs.promise_stands.Goals as goal
use Rattle.calls.proofs.Asking as asking
use Rattle.calls.proofs.Twice as twice

pub returns : goal.returns
returns c = record { asks = asking.asks_in_lives; two = twice.two_lives; whole = twice.promise_kept; zero = refl }
