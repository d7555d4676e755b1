use Rattle.std.proofs.Common.{◌≡◌}
use Rattle.legs.specs.Tables.{positions_of, leg_of}
use Rattle.trees.specs.Trees.{table_of}
use Rattle.tables.proofs.Filling.{with_row_up_to}
use Rattle.tables.proofs.rows.fill_row.Given as goal

abbrev pub invariant-loop-j : goal.invariant-loop-j
invariant-loop-j l =
    (positions_of l.legs ≡ positions_of l.initial.legs)
    × (leg_of l.legs ≡ with_row_up_to l.j (positions_of l.initial.legs) l.transit l.position (table_of l.tree) (leg_of l.initial.legs))
