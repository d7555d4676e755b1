use Rattle.std.proofs.Common.{length, Some}
use Rattle.lives.proofs.Lines.{all_lived, drop_same, call_past}
use Rattle.lives.proofs.live.Goals as goal

pub returns : goal.returns
returns g c =
    record {
      same = c.live_lines.ensures.same;
      life = all_lived g.K.Length.kind (g.M.Map.graph c.args.map) c.args.calls.now c.args.answers.now c.live_lines.new.answers c.live_lines.ensures.life;
      rest = drop_same c.live_lines.new.answers c.args.answers.now (length c.args.calls.now) c.live_lines.auto.answers
          (λ j h. c.live_lines.ensures.kept j (call_past Some c.args.calls.now j h));
    }
