use Rattle.trees.proofs.Tables.{table_none}
use Rattle.trees.proofs.BoundedTree.empty.Goals as goal

pub returns : goal.returns
returns c = table_none _ (cc)
