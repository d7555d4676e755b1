-- Counts over a list: one count, one element more, and a count by tests.
use Rattle.std.proofs.Common.{◌≡◌, ℕ, zero, suc, ◌+◌, ◌-◌, ◌<◌, ◌≤◌, Bool, true, false, ◌&&◌, List, [], ◌∷◌, ◌++◌, length, get_or, take, sym, refl, ap, ◌∙◌, subst, inl, inr, ⊎_elim, add-one, arith}
use Rattle.std.proofs.lemmas.Bool.{cases_Bool, and_parts, and_cases}
use Rattle.std.proofs.lemmas.List.{take_more, take_all}
use Rattle.walks.specs.Walks.{Leads}
use Rattle.walks.specs.Trees.{Tells, tree, Affected}
use Rattle.asks.specs.Redone.{Counted}
use Rattle.asks.specs.Held.{bit}
use Rattle.asks.specs.Index.{node_at}
use Rattle.asks.specs.Reached.{passing}
use Rattle.asks.specs.Claims.{RedoneOnce}

-- a list has one count
pub counted_once : (P : ℕ → Type 0) (xs : List ℕ) (a b : ℕ) → Counted P xs a → Counted P xs b → a ≡ b
counted_once P [] a b p q = p ∙ sym q
counted_once P (x ∷ xs) a b p q =
    ⊎_elim
    (λ y. ⊎_elim (λ z. y.1.1 ∙ ap suc (counted_once P xs y.1.0 z.1.0 y.1.2 z.1.2) ∙ sym z.1.1) (λ z. absurd (z.0 y.0)) q)
    (λ y. ⊎_elim (λ z. absurd (y.0 z.0)) (λ z. counted_once P xs a b y.1 z.1) q) p

pub redone_once : RedoneOnce
redone_once K G ns F s a b p q = counted_once (λ v. Leads G.street F s v × Affected F (tree K G ns v)) ns a b p q

-- one more element, for loops over a list
pub counted_yes : (P : ℕ → Type 0) (xs : List ℕ) (x r : ℕ) → P x → Counted P xs r → Counted P (xs ++ x ∷ []) (r + 1)
counted_yes P [] x r h c = inl (h, (0, omega arith, refl))
counted_yes P (y ∷ ys) x r h c =
    ⊎_elim (λ z. inl (z.0, (z.1.0 + 1, omega (arith, z.1.1), counted_yes P ys x z.1.0 h z.1.2))) (λ z. inr (z.0, counted_yes P ys x r h z.1)) c

pub counted_no : (P : ℕ → Type 0) (xs : List ℕ) (x r : ℕ) → (P x → ⊥) → Counted P xs r → Counted P (xs ++ x ∷ []) r
counted_no P [] x r h c = inr (h, c)
counted_no P (y ∷ ys) x r h c =
    ⊎_elim (λ z. inl (z.0, (z.1.0, z.1.1, counted_no P ys x z.1.0 h z.1.2))) (λ z. inr (z.0, counted_no P ys x r h z.1)) c

-- two tests together tell of both
pub tells_both : (a b : Bool) (P Q : Type 0) → Tells a P → Tells b Q → Tells (a && b) (P × Q)
tells_both a b P Q p q = (
  λ h. let z = and_parts a b h in (p.0 z.0, q.0 z.1),
  λ h x. ⊎_elim (λ z. p.1 z x.0) (λ z. q.1 z x.1) (and_cases a b h),
)

-- a list's count is the number of its positions that pass a test that tells of their elements
module _ (P : ℕ → Type 0) (q : ℕ → Bool) (xs : List ℕ) (t : (i : ℕ) → 0 < i → i ≤ length xs → Tells (q i) (P (node_at xs i))) where
  counted_front : (i : ℕ) → i ≤ length xs → Counted P (take i xs) (passing q i)
  counted_front zero h = refl
  counted_front (suc i) h =
      let l : i < length xs = omega arith in
      let e : take (suc i) xs ≡ take i xs ++ get_or xs i 0 ∷ [] = ap (λ (k : ℕ). take k xs) (sym (add-one i)) ∙ take_more xs i 0 l in
      let c = counted_front i (omega arith) in
      let d : suc i - 1 ≡ i = omega arith in
      let k : Tells (q (suc i)) (P (get_or xs i 0)) = rw d at (t (suc i) (omega arith) h) in
      subst (λ (ys : List ℕ). Counted P ys (passing q i + bit (q (suc i)))) (sym e)
      (⊎_elim (λ (y : q (suc i) ≡ true). rw y (counted_yes P (take i xs) (get_or xs i 0) (passing q i) (k.0 y) c))
      (λ (y : q (suc i) ≡ false). rw y
      (let z : passing q i ≡ passing q i + 0 = omega arith in
      subst (Counted P (take i xs ++ get_or xs i 0 ∷ [])) z (counted_no P (take i xs) (get_or xs i 0) (passing q i) (k.1 y) c)))
      (cases_Bool (q (suc i))))

  pub counted_at : Counted P xs (passing q (length xs))
  counted_at =
      let z : length xs ≤ length xs = omega arith in
      subst (λ (ys : List ℕ). Counted P ys (passing q (length xs))) (take_all (length xs) xs z) (counted_front (length xs) z)

-- positions that pass number at most all
pub passing_le : (q : ℕ → Bool) (k : ℕ) → passing q k ≤ k
passing_le q zero = omega arith
passing_le q (suc k) = omega (arith, passing_le q k, bit_le (q (suc k)))
  where
    bit_le : (b : Bool) → bit b ≤ 1
    bit_le true = omega arith
    bit_le false = omega arith
