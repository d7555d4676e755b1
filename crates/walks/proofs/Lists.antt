-- What a list contains, and marks that are all false.
use Rattle.std.proofs.Common.{◌≡◌, ℕ, zero, suc, false, ◌⊎◌, List, ◌∷◌, get_or, replicate, refl, inl, inr, arith}
use Rattle.std.specs.List.{ContainsAt}

pub has_first : {E : Type 0} (x : E) (xs : List E) → ContainsAt (x ∷ xs) x
has_first x xs = (0, omega arith, λ d. refl)

pub has_next : {E : Type 0} (x y : E) (xs : List E) → ContainsAt xs y → ContainsAt (x ∷ xs) y
has_next x y xs h = (suc h.0, omega arith, λ d. h.2 d)

pub has_cases : {E : Type 0} (x y : E) (xs : List E) → ContainsAt (x ∷ xs) y → (x ≡ y) ⊎ ContainsAt xs y
has_cases x y xs (zero, lt, is) = inl (is y)
has_cases x y xs (suc k, lt, is) = inr (k, omega arith, is)

pub none_marked : (k i : ℕ) → get_or (replicate k false) i false ≡ false
none_marked zero i = refl
none_marked (suc k) zero = refl
none_marked (suc k) (suc i) = none_marked k i
