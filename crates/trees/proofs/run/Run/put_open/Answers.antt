use Rattle.std.proofs.Common.{◌≤◌, length, sym, refl, ◌∙◌, subst, arith}
use Rattle.std.specs.List.Sorted.{IsPermutation}
use Rattle.std.proofs.lemmas.List.Sorted.{IsPermutation-refl}
use Rattle.maps.specs.Graph.{Leaves, Here, Lowest, tail_of}
use Rattle.queue.specs.Queues.{held, room}
use Rattle.trees.specs.Marks.{closed_in}
use Rattle.trees.specs.Trees.{table_of}
use Rattle.trees.specs.Candidates.{leaving, with_streets}
use Rattle.trees.proofs.Chains.{put_up_to, to_put, chain_next, chain_fits, chain_more}
use Rattle.trees.proofs.Kept.{kept_same, kept_on, slot_kept}
use Rattle.trees.proofs.run.Run.put_open.Goals as goal

pub loop-next-init : goal.loop-next-init
loop-next-init g c =
    let run = c.args.self.now in
    let G = g.M.Map.graph run.map.now in
    let low = c.first_leaving-next.ensures in
    let cs = held run.queue in (
      kept_same g.K.Length.kind run c.requires.ordered,
      refl,
      low.here,
      subst (λ x. IsPermutation x cs) (sym (chain_next g.K.Length.kind G (g.M.Map.lawful run.map.now) (closed_in run.limits.closed.now) (table_of run.tree) c.args.v c.args.l cs 0 (omega arith) _ low)) (IsPermutation-refl cs),
    )

pub put_street-requires-clause-fits : goal.put_street-requires-clause-fits
put_street-requires-clause-fits g c =
    let run = c.args.self.now in
    let G = g.M.Map.graph run.map.now in
    let F = closed_in run.limits.closed.now in
    let T = table_of run.tree in
    let now = c.loop-next.self in
    let i = c.loop-next.invariant in
    let here = subst (Here (Leaves G c.args.v)) c.in-Some.is i.2 in
    let s = subst (λ r. IsPermutation (with_streets g.K.Length.kind (leaving c.args.v (to_put G F T)) c.args.l (put_up_to G.slots r) (held run.queue)) (held now.queue)) c.in-Some.is i.3 in
    let f = chain_fits g.K.Length.kind G (g.M.Map.lawful run.map.now) F T c.args.v c.args.l (held run.queue) c.in-Some.e here (held now.queue) s in
    let r = i.0.room in
    subst (λ x. length x ≤ room now.queue) (sym (slot_kept g.K.Length.kind g.M.Map.graph run now i.0 i.1 c.in-Some.e c.args.l)) (omega arith)

pub loop-next-preserved : goal.loop-next-preserved
loop-next-preserved g c =
    let k = g.K.Length.kind in
    let graph = g.M.Map.graph in
    let run = c.args.self.now in
    let G = graph run.map.now in
    let F = closed_in run.limits.closed.now in
    let T = table_of run.tree in
    let now = c.loop-next.self in
    let next = c.put_street.new.self in
    let i = c.loop-next.invariant in
    let e = c.in-Some.e in
    let told = c.put_street.ensures in
    let kept = kept_on k run now next i.0 told.kept in
    let here = subst (Here (Leaves G c.args.v)) c.in-Some.is i.2 in
    let s = subst (λ r. IsPermutation (with_streets k (leaving c.args.v (to_put G F T)) c.args.l (put_up_to G.slots r) (held run.queue)) (held now.queue)) c.in-Some.is i.3 in
    let t = subst (λ x. IsPermutation x (held next.queue)) (slot_kept k graph run now i.0 i.1 e c.args.l) told.held in
    let there = subst (λ m. Lowest (Leaves (graph m.now) (tail_of ((graph m.now).street e))) e c.next_leaving-next.result) kept.map c.next_leaving-next.ensures in
    let low : Lowest (Leaves G c.args.v) e c.next_leaving-next.result = subst (λ t. Lowest (Leaves G t) e c.next_leaving-next.result) here.1 there in
    (kept, told.tree ∙ i.1, low.here, chain_more k G (g.M.Map.lawful run.map.now) F T c.args.v c.args.l (held run.queue) e here _ low _ _ s t)
