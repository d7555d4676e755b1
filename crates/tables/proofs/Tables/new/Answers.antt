use Rattle.std.proofs.Common.{arith}
use Rattle.std.proofs.lemmas.Grind.{common_steps}
use Rattle.trees.proofs.Closed.{replicate_closed}
use Rattle.tables.proofs.Tables.new.Goals as goal

pub returns : goal.returns
returns c = rw (replicate_closed 512) (grind (arith, common_steps))
