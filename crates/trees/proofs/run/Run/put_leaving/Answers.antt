use Rattle.std.proofs.Common.{sym, subst}
use Rattle.std.specs.List.Sorted.{IsPermutation}
use Rattle.std.proofs.lemmas.List.Sorted.{IsPermutation-refl}
use Rattle.walks.specs.Streets.{member, without}
use Rattle.queue.specs.Queues.{held}
use Rattle.trees.specs.Marks.{closed_in}
use Rattle.trees.specs.Trees.{table_of}
use Rattle.trees.proofs.Bounds.{with_not}
use Rattle.trees.proofs.run.Run.put_leaving.Goals as goal

pub returns-else-may_leave-clause-held : goal.returns-else-may_leave-clause-held
returns-else-may_leave-clause-held g c =
    let run = c.args.self.now in
    let G = g.M.Map.graph run.map.now in
    let L = run.limits in
    let cs = held run.queue in
    let e = with_not (member L.transit.now) L.root c.args.v (table_of run.tree) (without (closed_in L.closed.now) G.street) g.K.Length.kind c.args.l G.slots cs c.if-may_leave.ensures in
    subst (λ x. IsPermutation x cs) (sym e) (IsPermutation-refl cs)
