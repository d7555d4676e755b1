use Rattle.std.proofs.Common.{◌≡◌}
use Rattle.legs.specs.Tables.{positions_of, leg_of}
use Rattle.answering.specs.Handing.{RowsBlank}
use Rattle.answering.proofs.handing.Ask.blank_rows.Given as goal

abbrev pub invariant-loop-i : goal.invariant-loop-i
invariant-loop-i g l = RowsBlank l.i l.transit l.fn.self.tables.now.trees (leg_of l.initial.legs) (leg_of l.legs) × (positions_of l.legs ≡ positions_of l.initial.legs)
