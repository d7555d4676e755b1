use Rattle.std.proofs.Common.{◌≡◌, ◌≤◌}
use Rattle.tables.specs.Tables.{list_of}
use Rattle.storing.specs.Records.{tree_positions}
use Rattle.storing.proofs.holders_of.Given as goal

abbrev pub invariant-loop-i : goal.invariant-loop-i
invariant-loop-i g l = (l.row.count ≤ l.i) × (list_of l.row ≡ tree_positions (g.M.Map.graph l.map) l.trees l.i l.e)
