use Rattle.std.proofs.Common.{◌≡◌}
use Rattle.legs.specs.Tables.{positions_of, leg_of}
use Rattle.trees.specs.Trees.{table_of}
use Rattle.answering.specs.Handing.{StopsHanded}
use Rattle.answering.proofs.handing.Ask.hand_ends.Given as goal

abbrev pub invariant-loop-i : goal.invariant-loop-i
invariant-loop-i g l =
    StopsHanded l.i l.v-items (table_of l.from) (table_of l.back) (leg_of l.initial.legs) (leg_of l.legs)
    × (positions_of l.legs ≡ positions_of l.initial.legs)
