-- Walks, their lengths, and the best open length.
use Rattle.std.specs.Prelude.{◌≡◌, ℕ, Bool, true, false, List, [], ◌∷◌, Some, None, Option}
use Rattle.std.specs.List.{AllByRecursion}
use Rattle.maps.specs.Graph.{Street}
use Rattle.lengths.specs.Kinds.{Kind}
use Rattle.walks.specs.Streets.{Streets}

-- the streets of the slots w lead from s to t: each head is the next one's tail; the empty list leads from s to itself
abbrev pub Walk : Streets → ℕ → List ℕ → ℕ → Type 0
Walk g s [] t = s ≡ t
Walk g s (e ∷ w) t = (a : Street) × (g e ≡ Some a) × (a.0 ≡ s) × Walk g a.1 w t

-- the length of a street, and the kind's zero where there is none
abbrev pub street_length : Kind → Option Street → ℕ
street_length K None = K.zero
street_length K (Some a) = a.2

-- a joined with the lengths of the streets of w, from the first on
abbrev pub length_from : Kind → Streets → ℕ → List ℕ → ℕ
length_from K g a [] = a
length_from K g a (e ∷ w) = length_from K g (K.join a (street_length K (g e))) w

-- the length of a walk: zero joined with its streets' lengths
abbrev pub walk_length : Kind → Streets → List ℕ → ℕ
walk_length K g w = length_from K g K.zero w

-- a walk is open if none of its streets is in the set F of closed streets
abbrev pub Open : (ℕ → Bool) → List ℕ → Type 0
Open F w = AllByRecursion (λ e. F e ≡ false) w

-- an open walk leads from s to t
abbrev pub Leads : Streets → (ℕ → Bool) → ℕ → ℕ → Type 0
Leads g F s t = (w : List ℕ) × Walk g s w t × Open F w

-- the right answer for s and t: the length of some open walk that is no worse than that of every open walk, or none if there is no open walk
abbrev pub BestOpen : Kind → Streets → (ℕ → Bool) → ℕ → ℕ → Option ℕ → Type 0
BestOpen K g F s t None = (w : List ℕ) → Walk g s w t → Open F w → ⊥
BestOpen K g F s t (Some l) =
    ((w : List ℕ) × Walk g s w t × Open F w × (walk_length K g w ≡ l))
    × ((w : List ℕ) → Walk g s w t → Open F w → K.no_worse l (walk_length K g w) ≡ true)
