use Rattle.std.proofs.Common.{arith}
use Rattle.std.proofs.lemmas.List.{take_more_set}
use Rattle.storing.proofs.add_holder.Goals as goal

pub returns-clause-list : goal.returns-clause-list
returns-clause-list c = let h = c.args.row.now in take_more_set h.positions h.count c.args.position (omega arith)
