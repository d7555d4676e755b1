use Rattle.std.proofs.Common.{rules}
use Rattle.block.specs.Refusal.{leads_out}
use Rattle.block.proofs.cells.Cells.leads_out.Goals as goal

pub returns-then-is_open : goal.returns-then-is_open
unfolding leads_out
returns-then-is_open c = search rules

pub returns-else-is_open : goal.returns-else-is_open
unfolding leads_out
returns-else-is_open c = search rules
