use Rattle.std.proofs.Common.{◌≡◌, length}
use Rattle.legs.specs.Tables.{leg_of}
use Rattle.tables.specs.Tables.{transit_of}
use Rattle.answering.specs.Handing.{RowsFilled, is_marked, unmarked, run_anew}
use Rattle.answering.proofs.handing.Ask.search_reached.Given as goal

abbrev pub invariant-loop-filled : goal.invariant-loop-filled
invariant-loop-filled g l =
    RowsFilled (transit_of l.self.tables.now) l.self.tables.now.trees (run_anew g.K.Length.kind (g.M.Map.graph l.self.map.now) l.self.tables.now) (is_marked l.filled) (leg_of l.initial.self.legs) (leg_of l.self.legs)
    × (l.self.map ≡ l.initial.self.map)
    × (l.self.tables ≡ l.initial.self.tables)
    × (length l.filled ≡ length l.initial.filled)

abbrev pub decreases-loop-filled : goal.decreases-loop-filled
decreases-loop-filled g l = unmarked l.filled
