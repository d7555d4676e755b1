-- The redone count as it is worked out: over the positions that are reached over the legs.
use Rattle.std.specs.Prelude.{ℕ, zero, suc, ◌+◌, Bool, ◌&&◌, List, is_some, Option}
use Rattle.maps.specs.Graph.{Graph}
use Rattle.lengths.specs.Kinds.{Kind}
use Rattle.asks.specs.Held.{bit, is_affected}
use Rattle.asks.specs.Index.{tree_at}

-- how many of positions 1 to k pass the test
abbrev pub passing : (ℕ → Bool) → ℕ → ℕ
passing q zero = 0
passing q (suc k) = passing q k + bit (q (suc k))

-- position i has a length and its tree is affected
abbrev pub is_redone : Kind → Graph → List ℕ → (ℕ → Bool) → (ℕ → Option ℕ) → ℕ → Bool
is_redone K G ns F A i = is_some (A i) && is_affected F (tree_at K G ns i) G.junctions
