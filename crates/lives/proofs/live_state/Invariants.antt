use Rattle.std.proofs.Common.{◌≡◌, List}
use Rattle.calls.specs.declared.Answer.{Answer}
use Rattle.lives.specs.Lines.{LivedLines}
use Rattle.lives.proofs.live_state.Given as goal

-- the map is as at the start, and the calls among the lines so far are answered
abbrev pub invariant-loop-i : goal.invariant-loop-i
invariant-loop-i g l =
    record {
      same : g.S.State.map_of l.state ≡ g.S.State.map_of l.initial.state;
      fits : g.S.State.Fits l.state;
      lived :
          (before : List Answer)
          → LivedLines g.L.Line.meant g.S.State.kind (g.M.Map.graph (g.S.State.map_of l.initial.state)) l.lines before l.initial.answers l.from (g.S.State.moment l.initial.state)
          → LivedLines g.L.Line.meant g.S.State.kind (g.M.Map.graph (g.S.State.map_of l.initial.state)) l.lines before l.answers l.i (g.S.State.moment l.state);
    }
