-- What the steps of a run keep.
use Rattle.std.proofs.Common.{◌≡◌, ℕ, refl, ◌∙◌}
use Rattle.maps.specs.Graph.{Graph}
use Rattle.queue.specs.Queues.{held, Ordered}
use Rattle.entries.specs.Records.{CandidateAhead}
use Rattle.lengths.specs.Kinds.{Kind}
use Rattle.trees.specs.declared.run.Run.{Run}
use Rattle.trees.specs.Marks.{closed_in}
use Rattle.trees.specs.Trees.{table_of}
use Rattle.trees.specs.Candidates.{with_street}
use Rattle.trees.specs.Kept.{RunKept, with_slot}
use Rattle.trees.proofs.Chains.{to_put}

module _ {M K : Type 0} (k : Kind) where
  pub kept_same : (a : Run M K) → Ordered (CandidateAhead k) a.queue → RunKept k a a
  kept_same a o = record { map = refl; limits = refl; ordered = o; room = refl; lender = refl }

  pub kept_on : (a b c : Run M K) → RunKept k a b → RunKept k b c → RunKept k a c
  kept_on a b c p q = record { map = q.map ∙ p.map; limits = q.limits ∙ p.limits; ordered = q.ordered; room = q.room ∙ p.room; lender = q.lender ∙ p.lender }

  module _ (graph : M → Graph) (a b : Run M K) (kept : RunKept k a b) where
    pub slot_kept : b.tree ≡ a.tree → (e l : ℕ) → with_slot k (graph b.map.now) b e l ≡ with_street k l e (to_put (graph a.map.now) (closed_in a.limits.closed.now) (table_of a.tree) e) (held b.queue)
    slot_kept t e l = rw (kept.map, kept.limits, t)
