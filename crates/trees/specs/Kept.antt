-- What a run holds once streets are put, and what it keeps from one step to the next. G is the graph of its map, k its kind of length.
use Rattle.std.specs.Prelude.{◌≡◌, ℕ, ◌+◌, List, length}
use Rattle.maps.specs.Graph.{Graph}
use Rattle.lengths.specs.Kinds.{Kind}
use Rattle.walks.specs.Streets.{without}
use Rattle.queue.specs.Queues.{held, room, Ordered}
use Rattle.entries.specs.declared.Candidate.{Candidate}
use Rattle.entries.specs.Records.{CandidateAhead}
use Rattle.trees.specs.Marks.{closed_in}
use Rattle.trees.specs.Trees.{table_of}
use Rattle.trees.specs.Limited.{streets_within}
use Rattle.trees.specs.Candidates.{leaving, unsettled_heads, with_street, with_streets, unsettled_tails, Underway}
use Rattle.trees.specs.declared.run.Run.{Run}

module _ {M K : Type 0} (k : Kind) (G : Graph) (run : Run M K) where
  -- the candidates held and the one of slot e, from a tail with length l, if its street is open and its head unsettled
  abbrev pub with_slot : ℕ → ℕ → List Candidate
  with_slot e l = with_street k l e (unsettled_heads (table_of run.tree) (without (closed_in run.limits.closed.now) G.street) e) (held run.queue)

  -- the candidates held and those of the open streets that leave v, which has length l, for an unsettled head
  abbrev pub with_open : ℕ → ℕ → List Candidate
  with_open v l = with_streets k (leaving v (unsettled_heads (table_of run.tree) (without (closed_in run.limits.closed.now) G.street))) l G.slots (held run.queue)

  -- the same of the streets that the run may take
  abbrev pub with_leaving : ℕ → ℕ → List Candidate
  with_leaving v l = with_streets k (leaving v (unsettled_heads (table_of run.tree) (streets_within G run.limits))) l G.slots (held run.queue)

  -- the run is underway, with cs as the candidates that it has to look at
  abbrev pub RunUnderway : List Candidate → Type 0
  RunUnderway cs = Underway k (streets_within G run.limits) G.slots run.limits.root (table_of run.tree) cs

-- the candidates held and the streets whose tail is unsettled
abbrev pub work_left : {M K : Type 0} → Graph → Run M K → ℕ
work_left G run = length (held run.queue) + unsettled_tails (streets_within G run.limits) (table_of run.tree) G.slots

-- the map, the limits and the places of a run stay, and its queue is in order
pub record RunKept {M K : Type 0} (k : Kind) (old new : Run M K) : Type 0 where
  pub map : new.map ≡ old.map
  pub limits : new.limits ≡ old.limits
  pub ordered : Ordered (CandidateAhead k) new.queue
  pub room : room new.queue ≡ room old.queue
  pub lender : new.queue.places.ghost_name ≡ old.queue.places.ghost_name
