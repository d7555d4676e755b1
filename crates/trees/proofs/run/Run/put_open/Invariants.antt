use Rattle.std.proofs.Common.{◌≡◌, ℕ, ◌+◌, ◌-◌, Some, None, Option}
use Rattle.std.specs.List.Sorted.{IsPermutation}
use Rattle.maps.specs.Graph.{Leaves, Here}
use Rattle.queue.specs.Queues.{held}
use Rattle.trees.specs.Marks.{closed_in}
use Rattle.trees.specs.Trees.{table_of}
use Rattle.trees.specs.Candidates.{leaving, with_streets}
use Rattle.trees.specs.Kept.{RunKept}
use Rattle.trees.proofs.Chains.{put_up_to, to_put}
use Rattle.trees.proofs.run.Run.put_open.Given as goal

-- how many slots there are from the next street on
abbrev pub slots_left : ℕ → Option ℕ → ℕ
slots_left m None = 0
slots_left m (Some e) = m + 1 - e

abbrev pub invariant-loop-next : goal.invariant-loop-next
invariant-loop-next g l =
    let run = l.initial.self in
    let G = g.M.Map.graph run.map.now in
    RunKept g.K.Length.kind run l.self
    × (l.self.tree ≡ run.tree)
    × Here (Leaves G l.v) l.next
    × IsPermutation (with_streets g.K.Length.kind (leaving l.v (to_put G (closed_in run.limits.closed.now) (table_of run.tree))) l.l (put_up_to G.slots l.next) (held run.queue)) (held l.self.queue)

abbrev pub decreases-loop-next : goal.decreases-loop-next
decreases-loop-next g l = slots_left (g.M.Map.graph l.self.map.now).slots l.next
