use Rattle.std.proofs.Common.{arith}
use Rattle.std.proofs.lemmas.Grind.{common_steps}
use Rattle.trees.proofs.Tables.{table_zero}
use Rattle.tables.proofs.rows.length_after.Goals as goal

pub returns-in_err-v : goal.returns-in_err-v
returns-in_err-v c = grind (arith, common_steps, table_zero c.args.tree.now)
