-- Each theorem by its name.
use Rattle.std.proofs.Common.{refl}
use Rattle.asks.proofs.trees_in_words_stand.Goals as goal
use Rattle.asks.proofs.Bounds as bounds

pub returns : goal.returns
returns c = record { trees = bounds.trees_in_words; legs = bounds.stored_in_words; zero = refl }
