-- One turn of a run that is underway: what follows where the best candidate's street is ahead, and where it is not.
use Rattle.std.proofs.Common.{◌≡◌, ◌≤◌, ◌∷◌, length, Some, None, subst}
use Rattle.std.specs.List.{AllByRecursion}
use Rattle.std.specs.List.Sorted.{IsPermutation}
use Rattle.maps.specs.Graph.{Street, Graph, LawfulMap}
use Rattle.lengths.specs.Kinds.{Kind, LawfulKind}
use Rattle.walks.specs.Runs.{Table, settle}
use Rattle.queue.specs.Queues.{held}
use Rattle.entries.specs.declared.Candidate.{Candidate}
use Rattle.entries.specs.Records.{CandidateAhead}
use Rattle.trees.specs.declared.BoundedTree.{BoundedTree}
use Rattle.trees.specs.declared.run.Run.{Run}
use Rattle.trees.specs.Trees.{table_of}
use Rattle.trees.specs.Limited.{streets_within}
use Rattle.trees.specs.Candidates.{leaving, unsettled_heads, with_streets}
use Rattle.trees.specs.Kept.{RunKept, RunUnderway, with_leaving, work_left}
use Rattle.trees.proofs.Bounds.{within_coded, first_street, first_settled}
use Rattle.trees.proofs.Candidates.{underway_skip, underway_step, step_fits, step_less}

module _ {M K : Type 0} (k : Kind) (law : LawfulKind k) (G : Graph) (w : LawfulMap G) (run : Run M K) (best : Candidate) (under : RunUnderway k G run (best ∷ held run.queue)) where
  -- the street is not ahead: its head is settled, and the run goes on without it
  pub turn_skips : None ≡ unsettled_heads (table_of run.tree) G.street best.slot → RunUnderway k G run (held run.queue)
  turn_skips n =
      let L = run.limits in
      let T = table_of run.tree in
      let q = first_settled G L k G.slots L.root T best (held run.queue) under n in
      underway_skip k (streets_within G L) G.junctions G.slots (within_coded G L w) L.root T best (held run.queue) under q.0 q.1 q.2 q.3

  module _ (first : AllByRecursion (CandidateAhead k best) (held run.queue)) (a : Street) (ahead : Some a ≡ unsettled_heads (table_of run.tree) G.street best.slot) where
    -- the street is ahead: there is room for the candidates of its head
    pub turn_fits : (t : BoundedTree) → length (with_leaving k G (record run { tree = t }) a.1 best.length) ≤ G.slots
    turn_fits t =
        let L = run.limits in
        let T = table_of run.tree in
        let q = first_street G L k G.slots L.root T best (held run.queue) under ahead in
        step_fits k (streets_within G L) G.junctions G.slots (within_coded G L w) L.root T best (held run.queue) under law first a q.0 q.2 (table_of t)

    -- and once its head is settled in t and they are put, the run goes on with less left to do
    module _ (t : BoundedTree) (set : table_of t ≡ settle (table_of run.tree) (Some (a.1, best.slot, best.length)))
        (new : Run M K) (kept : RunKept k (record run { tree = t }) new) (tree : new.tree ≡ t)
        (put : IsPermutation (with_leaving k G (record run { tree = t }) a.1 best.length) (held new.queue)) where
      pub turn_settles : RunUnderway k G new (held new.queue)
      turn_settles =
          let L = run.limits in
          let T = table_of run.tree in
          let P = streets_within G L in
          let q = first_street G L k G.slots L.root T best (held run.queue) under ahead in
          let s = subst (λ (X : Table). IsPermutation (with_streets k (leaving a.1 (unsettled_heads X P)) best.length G.slots (held run.queue)) (held new.queue)) set put in
          rw (kept.limits, tree, set)
          (underway_step k P G.junctions G.slots (within_coded G L w) L.root T best (held run.queue) under law first a q.0 q.2 (held new.queue) s)

      pub turn_less : work_left G new ≤ work_left G run
      turn_less =
          let L = run.limits in
          let T = table_of run.tree in
          let q = first_street G L k G.slots L.root T best (held run.queue) under ahead in
          rw (kept.limits, tree, set)
          (step_less k (streets_within G L) G.junctions G.slots (within_coded G L w) L.root T best (held run.queue) under law first a q.0 q.2 (table_of t) (held new.queue) put)
