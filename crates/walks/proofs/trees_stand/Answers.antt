-- Each theorem by its name.
use Rattle.std.proofs.Common.{refl}
use Rattle.walks.proofs.trees_stand.Goals as goal
use Rattle.walks.proofs.Trees as trees
use Rattle.walks.proofs.Unaffected as kept

pub returns : goal.returns
returns c = record { held = trees.held_at_head; keeps = kept.unaffected_keeps; test = kept.affected_by_test; zero = refl }
