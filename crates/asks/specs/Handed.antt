-- The legs that are stored, and the legs that an ask hands on.
use Rattle.std.specs.Prelude.{ℕ, Bool, cond, not, ◌&&◌, List, length, None, Option, ◌==◌, nat_le}
use Rattle.maps.specs.Graph.{Graph, reversed}
use Rattle.lengths.specs.Kinds.{Kind}
use Rattle.walks.specs.Runs.{length_of, bounded_run}
use Rattle.walks.specs.Legs.{Legs, leg_between}
use Rattle.asks.specs.Held.{is_affected}
use Rattle.asks.specs.Index.{node_at, tree_at}

-- i is a position of a list of k transit nodes
abbrev pub is_position : ℕ → ℕ → Bool
is_position k i = nat_le 1 i && nat_le i k

-- the stored leg from position i to another position j: its length in the tree of i, absent if it is not settled there
abbrev pub stored_legs : Kind → Graph → List ℕ → Legs
stored_legs K G ns i j =
    cond (is_position (length ns) i && is_position (length ns) j && not (i == j)) (length_of (tree_at K G ns i (node_at ns j))) None

-- the leg from position i to position j: stored, or worked out anew without the closed streets where the tree of i is affected
abbrev pub position_leg : Kind → Graph → List ℕ → (ℕ → Bool) → ℕ → ℕ → Option ℕ
position_leg K G ns F i j =
    cond (is_affected F (tree_at K G ns i) G.junctions) (length_of (bounded_run K G ns F (node_at ns i) (node_at ns j))) (stored_legs K G ns i j)

-- the length from the start s to node j by the run from s: access to a position, or the direct length to the goal t
abbrev pub access_leg : Kind → Graph → List ℕ → (ℕ → Bool) → ℕ → ℕ → ℕ → Option ℕ
access_leg K G ns F s t j = length_of (bounded_run K G ns F s (cond (j == 31) t (node_at ns j)))

-- the length from position i to the goal t by the run from t against the streets
abbrev pub egress_leg : Kind → Graph → List ℕ → (ℕ → Bool) → ℕ → ℕ → Option ℕ
egress_leg K G ns F t i = length_of (bounded_run K (reversed G) ns F t (node_at ns i))

-- the legs that an ask from s to t hands on: node 0 is the start, nodes 1 to 16 are positions, node 31 is the goal
abbrev pub handed_legs : Kind → Graph → List ℕ → (ℕ → Bool) → ℕ → ℕ → Legs
handed_legs K G ns F s t i j =
    cond (leg_between (length ns) i j)
    (cond (i == 0) (access_leg K G ns F s t j) (cond (j == 31) (egress_leg K G ns F t i) (position_leg K G ns F i j)))
    None

-- the row of position i is left out: its tree is affected, and R does not have it
abbrev pub is_left_out : Kind → Graph → List ℕ → (ℕ → Bool) → (ℕ → Bool) → ℕ → Bool
is_left_out K G ns F R i = is_position (length ns) i && is_affected F (tree_at K G ns i) G.junctions && not (R i)

-- the legs handed on in a round: of affected trees only the legs between positions from those of R are worked out, and the others are absent
abbrev pub filled_legs : Kind → Graph → List ℕ → (ℕ → Bool) → ℕ → ℕ → (ℕ → Bool) → Legs
filled_legs K G ns F s t R i j = cond (is_left_out K G ns F R i && not (j == 31)) None (handed_legs K G ns F s t i j)
