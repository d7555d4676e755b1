-- How many of junctions 1 to n are unsettled.
use Rattle.std.proofs.Common.{◌≡◌, ℕ, zero, suc, ◌+◌, ◌<◌, ◌≤◌, eqb, Some, None, Option, sym, refl, ap, ⊎_elim, arith}
use Rattle.std.proofs.lemmas.Bool.{cases_eq}
use Rattle.std.proofs.lemmas.Map.{update_here, update_apart}
use Rattle.std.specs.Map.{update}
use Rattle.walks.specs.Runs.{Entry, Table}

-- 1 for an unsettled junction
abbrev pub blank : Option Entry → ℕ
blank None = 1
blank (Some x) = 0

-- the number of unsettled junctions of 1 to k
abbrev pub unsettled_up_to : Table → ℕ → ℕ
unsettled_up_to T zero = 0
unsettled_up_to T (suc k) = blank (T (suc k)) + unsettled_up_to T k

blank_le : (o : Option Entry) → blank o ≤ 1
blank_le None = omega arith
blank_le (Some x) = omega arith

pub unsettled_le : (T : Table) (n : ℕ) → unsettled_up_to T n ≤ n
unsettled_le T zero = omega arith
unsettled_le T (suc n) = omega (arith, blank_le (T (suc n)), unsettled_le T n)

-- an unsettled junction counts
pub unsettled_some : (T : Table) (n h : ℕ) → 0 < h → h ≤ n → T h ≡ None → 0 < unsettled_up_to T n
unsettled_some T zero h l m s = absurd (omega arith)
unsettled_some T (suc n) h l m s =
    ⊎_elim (λ (p : h ≡ suc n). let b : blank (T (suc n)) ≡ 1 = rw (← p, s) in omega arith)
    (λ p. omega (arith, unsettled_some T n h l (omega arith) s)) (cases_eq h (suc n))

module _ (T : Table) (h : ℕ) (b : Entry) (u : T h ≡ None) where
  same_blank : (v : ℕ) → (v ≡ h → ⊥) → blank (update eqb T h (Some b) v) ≡ blank (T v)
  same_blank v n = ap blank (update_apart T h (Some b) v n)

  same_rest : (n : ℕ) → n < h → unsettled_up_to (update eqb T h (Some b)) n ≡ unsettled_up_to T n
  same_rest zero l = refl
  same_rest (suc n) l = omega (arith, same_blank (suc n) (omega arith), same_rest n (omega arith))

  -- one that is settled counts no more
  pub unsettled_settle : (n : ℕ) → 0 < h → h ≤ n → suc (unsettled_up_to (update eqb T h (Some b)) n) ≡ unsettled_up_to T n
  unsettled_settle zero l m = absurd (omega arith)
  unsettled_settle (suc n) l m =
      ⊎_elim
      (λ (p : h ≡ suc n).
      let x : blank (T (suc n)) ≡ 1 = rw (← p, u) in
      let y : blank (update eqb T h (Some b) (suc n)) ≡ 0 = rw (← p) (ap blank (update_here T h (Some b))) in
      omega (arith, same_rest n (omega arith)))
      (λ p. omega (arith, same_blank (suc n) (λ q. p (sym q)), unsettled_settle n l (omega arith)))
      (cases_eq h (suc n))
