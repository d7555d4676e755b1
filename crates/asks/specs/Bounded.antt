-- Walks past no other transit node, and the best length of such walks.
use Rattle.std.specs.Prelude.{◌≡◌, ℕ, true, false, ◌⊎◌, List, Some, None, Option}
use Rattle.std.specs.List.{AllByRecursion}
use Rattle.maps.specs.Graph.{Street, Graph}
use Rattle.lengths.specs.Kinds.{Kind}
use Rattle.walks.specs.Streets.{member}
use Rattle.walks.specs.Walks.{Walk, walk_length}

-- the walk w from u leads past no other transit node: each of its streets leaves u or a junction that is not in the transit list
abbrev pub PastNoOther : Graph → List ℕ → ℕ → List ℕ → Type 0
PastNoOther G ns u w = AllByRecursion (λ e. (a : Street) → G.street e ≡ Some a → (a.0 ≡ u) ⊎ (member ns a.0 ≡ false)) w

-- a walk past no other transit node leads from u to v
abbrev pub LeadsPast : Graph → List ℕ → ℕ → ℕ → Type 0
LeadsPast G ns u v = (w : List ℕ) × Walk G.street u w v × PastNoOther G ns u w

-- the right length from u to v past no other transit node: that of some such walk that is no worse than every such walk, or none if there is no such walk
abbrev pub BestPast : Kind → Graph → List ℕ → ℕ → ℕ → Option ℕ → Type 0
BestPast K G ns u v None = (w : List ℕ) → Walk G.street u w v → PastNoOther G ns u w → ⊥
BestPast K G ns u v (Some l) =
    ((w : List ℕ) × Walk G.street u w v × PastNoOther G ns u w × (walk_length K G.street w ≡ l))
    × ((w : List ℕ) → Walk G.street u w v → PastNoOther G ns u w → K.no_worse l (walk_length K G.street w) ≡ true)
