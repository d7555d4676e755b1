-- Small facts about options, numbers and lists.
use Rattle.std.proofs.Common.{◌≡◌, ℕ, suc, ◌≤◌, ◌⊎◌, List, [], ◌∷◌, Some, None, Option, inl, inr, ⊎_elim, arith}
use Rattle.std.proofs.lemmas.Bool.{cases_lt}
use Rattle.std.specs.List.{AllByRecursion}

pub none≢some : {X : Type 0} {o : Option X} {x : X} → o ≡ None → o ≡ Some x → ⊥
none≢some p q = let z : ◌≡◌ {A = ℕ} 0 1 = cc in omega arith

pub same_some : {X : Type 0} {o : Option X} {x y : X} → o ≡ Some x → o ≡ Some y → x ≡ y
same_some p q = cc

-- i is at most k, or the next
pub le_more : (i k : ℕ) → i ≤ suc k → (i ≤ k) ⊎ (i ≡ suc k)
le_more i k h = ⊎_elim (λ l. inl (omega arith)) (λ l. inr (omega arith)) (cases_lt i (suc k))

-- what two predicates say of a list, they say together
pub all_both : (P Q : ℕ → Type 0) (w : List ℕ) → AllByRecursion P w → AllByRecursion Q w → AllByRecursion (λ e. P e × Q e) w
all_both P Q [] p q = tt
all_both P Q (e ∷ w) p q = ((p.0, q.0), all_both P Q w p.1 q.1)
