use Rattle.std.proofs.Common.{◌≡◌, ◌-◌, false, length}
use Rattle.tables.specs.Tables.{moment_of}
use Rattle.tables.specs.Fits.{PlanFits}
use Rattle.lives.specs.Lines.{LivedLines}
use Rattle.lives.proofs.live_lines.Given as goal

-- the map is as at the start, and the calls among the lines so far are answered
abbrev pub invariant-loop-built : goal.invariant-loop-built
invariant-loop-built g l =
    record {
      same : l.plan.map ≡ l.fn.map;
      fits : PlanFits (g.M.Map.graph l.plan.map) l.plan.tables;
      lived : LivedLines g.L.Line.meant g.K.Length.kind (g.M.Map.graph l.fn.map) l.lines l.initial.answers l.answers l.from (moment_of false l.plan.tables);
    }

abbrev pub decreases-loop-built : goal.decreases-loop-built
decreases-loop-built g l = length l.lines - l.from
