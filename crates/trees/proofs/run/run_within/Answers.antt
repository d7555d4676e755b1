use Rattle.std.proofs.Common.{◌≡◌, [], length, refl, ap, subst, arith}
use Rattle.std.specs.List.Sorted.{IsPermutation}
use Rattle.std.proofs.ByRecursion.{all_shuffled}
use Rattle.walks.specs.Runs.{first_table}
use Rattle.queue.specs.Queues.{held}
use Rattle.entries.specs.Records.{CandidateAhead}
use Rattle.trees.specs.Trees.{table_of}
use Rattle.trees.specs.Runs.{none_settled}
use Rattle.trees.specs.Limited.{streets_within}
use Rattle.trees.specs.Candidates.{leaving, unsettled_heads, with_streets, Underway}
use Rattle.trees.proofs.Bounds.{within_coded}
use Rattle.trees.proofs.Candidates.{underway_first, underway_shuffled, underway_end, with_counted, tails_few}
use Rattle.trees.specs.declared.run.Limits.{Limits}
use Rattle.trees.specs.Kept.{RunKept}
use Rattle.trees.proofs.Kept.{kept_same, kept_on}
use Rattle.trees.proofs.run.run_within.Goals as goal

pub put_leaving-requires-clause-fits : goal.put_leaving-requires-clause-fits
put_leaving-requires-clause-fits g c =
    let G = g.M.Map.graph c.args.map.now in
    let L = c.args.limits in
    let P = streets_within G L in
    let e = ap length c.new.ensures.held in
    let f = with_counted g.K.Length.kind P none_settled (table_of c.settle.new.self) L.root (0, c.zero_of-zero.result) refl c.zero_of-zero.result (held c.new.result) G.slots in
    let x = tails_few P none_settled G.slots in
    let m = (g.M.Map.lawful c.args.map.now).few_slots in
    let r = c.new.ensures.room in
    omega arith

pub loop-best-init : goal.loop-best-init
loop-best-init g c =
    let G = g.M.Map.graph c.args.map.now in
    let k = g.K.Length.kind in
    let L = c.args.limits in
    let P = streets_within G L in
    let told = c.put_leaving.ensures in
    let ts = held c.put_leaving.new.self.queue in
    let z = c.zero_of-zero.ensures in
    let e : table_of c.settle.new.self ≡ first_table k L.root = rw (c.settle.ensures, c.empty.ensures, z) refl in
    let s : IsPermutation (with_streets k (leaving L.root (unsettled_heads (first_table k L.root) P)) k.zero G.slots []) ts = rw (c.new.ensures.held, z, e) at told.held in (
      kept_same k c.put_leaving.new.self told.kept.ordered,
      rw (told.kept.limits, told.tree, e) (underway_first k P G.junctions G.slots (within_coded G L (g.M.Map.lawful c.args.map.now)) L.root ts s),
    )

pub turn-requires-clause-underway : goal.turn-requires-clause-underway
turn-requires-clause-underway g c =
    let G = g.M.Map.graph c.args.map.now in
    let k = g.K.Length.kind in
    let run = c.loop-best.run in
    let L = run.limits in
    let i = c.loop-best.invariant in
    let kept = kept_on k _ _ run c.put_leaving.ensures.kept i.0 in
    rw kept.map
    (underway_shuffled k (streets_within G L) G.junctions G.slots (within_coded G L (g.M.Map.lawful c.args.map.now)) L.root _ _ _ c.in-Some.ensures.cases.shuffled i.1)

pub turn-requires-clause-best : goal.turn-requires-clause-best
turn-requires-clause-best g c =
    let rem = c.in-Some.ensures.cases in
    (all_shuffled (CandidateAhead g.K.Length.kind c.in-Some.best) _ _ rem.shuffled rem.best).1

pub loop-best-preserved : goal.loop-best-preserved
loop-best-preserved g c =
    let k = g.K.Length.kind in
    let run = c.loop-best.run in
    let i = c.loop-best.invariant in
    let kept = kept_on k _ _ run c.put_leaving.ensures.kept i.0 in
    let taken = record run { queue = c.take.new.self } in
    let t : RunKept k run taken = record { map = refl; limits = refl; ordered = c.take.ensures.ordered; room = c.take.ensures.room; lender = c.take.ensures.lender } in
    (kept_on k _ _ _ i.0 (kept_on k run taken _ t c.turn.ensures.kept), rw kept.map at c.turn.ensures.underway)

pub returns : goal.returns
returns g c =
    let G = g.M.Map.graph c.args.map.now in
    let k = g.K.Length.kind in
    let L = c.args.limits in
    let run = c.loop-best.run in
    let T = table_of run.tree in
    let i = c.loop-best.invariant in
    let kept = kept_on k _ _ run c.put_leaving.ensures.kept i.0 in
    let u = subst (λ (L : Limits). Underway k (streets_within G L) G.slots L.root T (held run.queue)) kept.limits i.1 in
    underway_end k (streets_within G L) G.junctions G.slots (within_coded G L (g.M.Map.lawful c.args.map.now)) L.root g.met.K.Length.lawful T
    (subst (Underway k (streets_within G L) G.slots L.root T) c.in_default.ensures.cases.none u)
