use Rattle.std.proofs.Common.{◌≡◌, length}
use Rattle.legs.specs.Tables.{positions_of, leg_of}
use Rattle.storing.proofs.Storing.{tree_legs_up_to}
use Rattle.storing.proofs.stored_legs.Given as goal

abbrev pub invariant-loop-i : goal.invariant-loop-i
invariant-loop-i l = (positions_of l.legs ≡ length l.transit) × (leg_of l.legs ≡ tree_legs_up_to l.i l.trees l.transit)
