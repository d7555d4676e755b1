-- The redone count of an ask: how many transit nodes are reached whose tree has to be worked out anew.
use Rattle.std.specs.Prelude.{◌≡◌, ℕ, suc, Bool, ◌⊎◌, List, [], ◌∷◌}
use Rattle.maps.specs.Graph.{Graph}
use Rattle.lengths.specs.Kinds.{Kind}
use Rattle.walks.specs.Walks.{Leads}
use Rattle.walks.specs.Trees.{tree, Affected}

-- r of the numbers of a list have P
abbrev pub Counted : (ℕ → Type 0) → List ℕ → ℕ → Type 0
Counted P [] r = r ≡ 0
Counted P (x ∷ xs) r = (P x × ((k : ℕ) × (r ≡ suc k) × Counted P xs k)) ⊎ ((P x → ⊥) × Counted P xs r)

-- r of the transit nodes have an open walk from s to them, and a tree that holds a closed street
abbrev pub Redone : Kind → Graph → List ℕ → (ℕ → Bool) → ℕ → ℕ → Type 0
Redone K G ns F s r = Counted (λ v. Leads G.street F s v × Affected F (tree K G ns v)) ns r
