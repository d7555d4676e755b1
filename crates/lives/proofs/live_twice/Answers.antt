use Rattle.calls.proofs.Twice.{promise_kept}
use Rattle.lives.proofs.live_twice.Goals as goal

pub returns : goal.returns
returns g c =
    let p = promise_kept g.K.Length.kind g.met.K.Length.lawful (g.M.Map.graph c.args.first) (g.N.Map.graph c.args.second) (g.M.Map.lawful c.args.first) _ _ _ _
    c.live-one.ensures.life c.live-two.ensures.life in
    record {
      same = (c.live-one.ensures.same, c.live-two.ensures.same);
      rest = (c.live-one.ensures.rest, c.live-two.ensures.rest);
      first = p.first;
      second = p.second;
      lengths = p.lengths;
      no_ways = p.no_ways;
      agree = p.agree;
      promise = p;
    }
