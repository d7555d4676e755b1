-- Legs between nodes: node 0 is the start, nodes 1 to 16 are the positions of the transit list, node 31 is the goal.
use Rattle.std.specs.Prelude.{◌≡◌, ℕ, ◌-◌, ◌/◌, ◌%◌, ◌<◌, ◌≤◌, Bool, cond, not, ◌&&◌, ◌||◌, ◌⊎◌, List, length, Some, None, Option, ◌==◌, nat_le, slice_index}
use Rattle.maps.specs.Graph.{Street, Graph, reversed}
use Rattle.lengths.specs.Kinds.{Kind}
use Rattle.walks.specs.Streets.{Streets}
use Rattle.walks.specs.Runs.{length_of, bounded_run}

-- a table of legs: the length from one node to another, if there is a leg
abbrev pub Legs : Type 0
Legs = ℕ → ℕ → Option ℕ

-- a leg as a street
abbrev pub grid_at : ℕ → ℕ → Option ℕ → Option Street
grid_at i j None = None
grid_at i j (Some l) = Some (i, j, l)

-- a table of legs as streets between nodes below 32: slot 32 × i + j leads from i to j
abbrev pub grid : Legs → Streets
grid D e = grid_at (e / 32) (e % 32) (D (e / 32) (e % 32))

-- a node that legs lead to, with k transit nodes: a position of 1 to k, or the goal
abbrev pub Target : ℕ → ℕ → Type 0
Target k j = ((0 < j) × (j ≤ k)) ⊎ (j ≡ 31)

-- the junction that a node stands for, with the start s and the goal t
abbrev pub junction_of : List ℕ → ℕ → ℕ → ℕ → ℕ
junction_of ns s t i = cond (i == 0) s (cond (i == 31) t (slice_index ns (i - 1)))

-- there may be a leg from i to j, with k transit nodes: from the start or a position, to another position or the goal
abbrev pub leg_between : ℕ → ℕ → ℕ → Bool
leg_between k i j = nat_le i k && ((nat_le 1 j && nat_le j k) || j == 31) && not (i == j)

-- the legs between s, the transit nodes and t without the streets of F: egress, from a position to the goal, by the run from t against the streets;
-- the direct length, access and the legs between positions by the runs along them
abbrev pub legs_of : Kind → Graph → List ℕ → (ℕ → Bool) → ℕ → ℕ → Legs
legs_of K G ns F s t i j =
    cond (leg_between (length ns) i j)
    (cond (j == 31 && not (i == 0))
    (length_of (bounded_run K (reversed G) ns F t (junction_of ns s t i)))
    (length_of (bounded_run K G ns F (junction_of ns s t i) (junction_of ns s t j))))
    None
