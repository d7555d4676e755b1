use Rattle.std.proofs.Common.{◌≡◌, length}
use Rattle.tables.specs.Tables.{transit_of}
use Rattle.answering.specs.Handing.{Round, run_anew}
use Rattle.answering.proofs.handing.Ask.fill_reached.Given as goal

abbrev pub invariant-loop-i : goal.invariant-loop-i
invariant-loop-i g l =
    Round l.i (transit_of l.initial.self.tables.now) l.initial.self.tables.now.trees (run_anew g.K.Length.kind (g.M.Map.graph l.initial.self.map.now) l.initial.self.tables.now) l.reached l.initial.self.legs l.self.legs l.initial.filled l.filled l.more
    × (l.self.map ≡ l.initial.self.map)
    × (l.self.tables ≡ l.initial.self.tables)
    × (length l.filled ≡ length l.initial.filled)
