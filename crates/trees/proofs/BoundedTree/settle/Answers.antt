use Rattle.std.proofs.Common.{refl, arith}
use Rattle.trees.proofs.Tables.{table_set}
use Rattle.trees.proofs.BoundedTree.settle.Goals as goal

pub returns : goal.returns
returns c = rw c.from-i.ensures (table_set c.args.self.now _ c.args.v c.args.slot c.args.length c.requires.0 (omega arith) (omega arith) refl refl)
