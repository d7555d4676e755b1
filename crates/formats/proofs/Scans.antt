-- The laws of lowest_in: what it gives, and the step, the hit and the end of a count upwards.
use Rattle.std.proofs.Common.{◌≡◌, ℕ, zero, suc, ◌+◌, ◌-◌, ◌<◌, ◌≤◌, Bool, true, false, cond, Some, None, Option, refl, ap, ◌∙◌, subst, ⊎_elim, arith}
use native.Mathlib.Decide.{ℕ_discrete, dec_le}
use borrow.Author.Tests.{both_ways}
use Rattle.std.proofs.lemmas.Bool.{cases_Bool}
use Rattle.maps.specs.Graph.{Lowest, Here, Before}
use Rattle.formats.specs.Scan.{scan, optional, lowest_in}
use Rattle.formats.proofs.Lowests.{here_map}

-- one number further down, which fails
widen : (P : ℕ → Type 0) (a : ℕ) (r : Option ℕ) → (P (suc a) → ⊥) → Lowest P (suc a) r → Lowest P a r
widen P a None f h = record { above = tt; here = tt; gap = λ k lo b p. elim (ℕ_discrete k (suc a)) [ yes e ↦ f (subst P e p) | no n ↦ h.gap k (omega arith) b p ] }
widen P a (Some e) f h = record {
  above = let l = h.above in omega arith;
  here = h.here;
  gap = λ k lo b p. elim (ℕ_discrete k (suc a)) [ yes i ↦ f (subst P i p) | no n ↦ h.gap k (omega arith) b p ];
}

-- k passes and is no higher than m
abbrev pub PassesTo : (ℕ → Bool) → ℕ → ℕ → Type 0
PassesTo P m k = (k ≤ m) × (P k ≡ true)

scan_step : (P : ℕ → Bool) (a m n : ℕ) (b : Bool) → a < m → P (suc a) ≡ b → Lowest (PassesTo P m) (suc a) (optional n) → Lowest (PassesTo P m) a (optional (cond b (suc a) n))
scan_step P a m n true lt e h = record { above = omega arith; here = (omega arith, e); gap = λ k lo hi. absurd (omega arith) }
scan_step P a m n false lt e h = widen (PassesTo P m) a (optional n) (λ p. both_ways _ e p.1) h

scan_lowest : (P : ℕ → Bool) (a f m : ℕ) → m ≡ a + f → Lowest (PassesTo P m) a (optional (scan P a f))
scan_lowest P a zero m is = record { above = tt; here = tt; gap = λ k lo _ p. let hi = p.0 in omega arith }
scan_lowest P a (suc f) m is = scan_step P a m (scan P (suc a) f) (P (suc a)) (omega arith) refl (scan_lowest P (suc a) f m (omega arith))

-- it is the lowest of the numbers above a and up to m that passes
pub lowest_in_lowest : (P : ℕ → Bool) (a m : ℕ) → a ≤ m → Lowest (PassesTo P m) a (optional (lowest_in P a m))
unfolding lowest_in
lowest_in_lowest P a m le = scan_lowest P a (m - a) m (omega arith)

-- where no number above m passes, it is the lowest of all numbers above a
pub lowest_in_of_all : (P : ℕ → Bool) (a m : ℕ) → ((k : ℕ) → m < k → P k ≡ true → ⊥) → Lowest (λ k. P k ≡ true) a (optional (lowest_in P a m))
unfolding lowest_in
lowest_in_of_all P a m none =
    let h = scan_lowest P a (m - a) (a + (m - a)) refl in
    record {
      above = h.above;
      here = here_map (PassesTo P (a + (m - a))) (λ k. P k ≡ true) (optional (scan P a (m - a))) (λ k p. p.1) h.here;
      gap = λ k lo b p. elim (dec_le k (a + (m - a))) [ yes w ↦ h.gap k lo b (w, p) | no n ↦ none k (omega arith) p ];
    }

here_at : (Q : ℕ → Type 0) (n : ℕ) → 0 < n → Here Q (optional n) → Q n
here_at Q zero lo h = absurd (omega arith)
here_at Q (suc n) lo h = h

before_at : (n k : ℕ) → k < n → Before (optional n) k
before_at zero k lt = absurd (omega arith)
before_at (suc n) k lt = lt

module _ (P : ℕ → Bool) (a m : ℕ) (le : a ≤ m) where
  -- where it finds none, none passes
  pub lowest_in_none : lowest_in P a m ≡ 0 → (k : ℕ) → a < k → k ≤ m → P k ≡ false
  lowest_in_none z k lo hi =
      let h = subst (λ n. Lowest (PassesTo P m) a (optional n)) z (lowest_in_lowest P a m le) in
      ⊎_elim (λ t. absurd (h.gap k lo tt (hi, t))) (λ f. f) (cases_Bool (P k))

  -- what it finds passes
  pub lowest_in_found : 0 < lowest_in P a m → (lowest_in P a m ≤ m) × (P (lowest_in P a m) ≡ true)
  lowest_in_found lo = here_at (PassesTo P m) (lowest_in P a m) lo (lowest_in_lowest P a m le).here

  -- and nothing before it does
  pub lowest_in_before : (k : ℕ) → a < k → k < lowest_in P a m → P k ≡ false
  lowest_in_before k lo lt =
      let found = lowest_in_found (omega arith) in
      ⊎_elim (λ t. absurd ((lowest_in_lowest P a m le).gap k lo (before_at (lowest_in P a m) k lt) (omega arith, t))) (λ f. f) (cases_Bool (P k))

  -- where none passes, it finds none
  pub lowest_in_off : ((k : ℕ) → a < k → k ≤ m → P k ≡ false) → lowest_in P a m ≡ 0
  lowest_in_off none =
      elim (ℕ_discrete (lowest_in P a m) 0) [
        | yes z ↦ z
        | no n ↦
            let found = lowest_in_found (omega arith) in
            absurd (both_ways _ (none (lowest_in P a m) (here_at (λ k. a < k) (lowest_in P a m) (omega arith) (lowest_in_lowest P a m le).above) found.0) found.1)
      ]

-- one step of a loop that counts up
step : (P : ℕ → Bool) (a m : ℕ) (b : Bool) → a < m → P (suc a) ≡ b → lowest_in P a m ≡ cond b (suc a) (lowest_in P (suc a) m)
unfolding lowest_in
step P a m b lt e =
    let s : m - a ≡ suc (m - suc a) = omega arith in
    ap (scan P a) s ∙ ap (λ t. cond t (suc a) (scan P (suc a) (m - suc a))) e

pub lowest_in_past : (P : ℕ → Bool) (k m : ℕ) → 0 < k → k ≤ m → P k ≡ false → lowest_in P (k - 1) m ≡ lowest_in P k m
lowest_in_past P k m lo hi e =
    let s : suc (k - 1) ≡ k = omega arith in
    step P (k - 1) m false (omega arith) (ap P s ∙ e) ∙ ap (λ x. lowest_in P x m) s

pub lowest_in_hit : (P : ℕ → Bool) (k m : ℕ) → 0 < k → k ≤ m → P k ≡ true → lowest_in P (k - 1) m ≡ k
lowest_in_hit P k m lo hi e =
    let s : suc (k - 1) ≡ k = omega arith in
    step P (k - 1) m true (omega arith) (ap P s ∙ e) ∙ s

pub lowest_in_end : (P : ℕ → Bool) (a m : ℕ) → m ≤ a → lowest_in P a m ≡ 0
unfolding lowest_in
lowest_in_end P a m le = let s : m - a ≡ 0 = omega arith in ap (scan P a) s
