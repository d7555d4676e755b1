-- Each theorem by its name.
use Rattle.std.proofs.Common.{refl}
use Rattle.asks.proofs.counts_stand.Goals as goal
use Rattle.asks.proofs.Numbers as numbers
use Rattle.asks.proofs.Slots as slots

pub returns : goal.returns
returns c = record { counts = slots.number_counts; affected = numbers.affected_by_number; follows = numbers.number_follows_marks; zero = refl }
