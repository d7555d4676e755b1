-- Each theorem by its name.
use Rattle.std.proofs.Common.{refl}
use Rattle.asks.proofs.redone_stands.Goals as goal
use Rattle.asks.proofs.Counting as counting
use Rattle.asks.proofs.Redoing as redoing

pub returns : goal.returns
returns c = record { once = counting.redone_once; lengths = redoing.redone_by_lengths; search = redoing.redone_by_search; zero = refl }
