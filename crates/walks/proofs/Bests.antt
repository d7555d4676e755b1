-- The best candidate of slots 1 to k, and of equals the lowest: there is one, and no other.
use Rattle.std.proofs.Common.{◌≡◌, ℕ, zero, suc, ◌<◌, ◌≤◌, Bool, true, false, cond, Some, None, Option, sym, refl, ◌∙◌, ⊎_elim, arith}
use Rattle.std.proofs.lemmas.Bool.{cases_lt, cases_Bool, both_ways}
use Rattle.lengths.specs.Kinds.{Kind, LawfulKind, Code}
use Rattle.walks.specs.Runs.{Candidate, better, best_up_to}
use Rattle.walks.proofs.Facts.{none≢some, same_some, le_more}

module _ (K : Kind) (law : LawfulKind K) where
  pub no_worse_refl : (a : ℕ) → Code a → K.no_worse a a ≡ true
  no_worse_refl a c = ⊎_elim (λ e. e) (law.total a a c c) (cases_Bool (K.no_worse a a))

-- p beats o at slot i: it is no worse, and o is worse if it stands before e
abbrev pub Beats : Kind → ℕ → Candidate → ℕ → Candidate → Type 0
Beats K e p i o = (K.no_worse p.2 o.2 ≡ true) × (i < e → K.no_worse o.2 p.2 ≡ false)

-- r is the best of f at 1 to k
abbrev pub Best : Kind → (ℕ → Option Candidate) → ℕ → Option Candidate → Type 0
Best K f k None = (i : ℕ) → 0 < i → i ≤ k → f i ≡ None
Best K f k (Some p) = (e : ℕ) × (0 < e) × (e ≤ k) × (f e ≡ Some p) × ((i : ℕ) (o : Candidate) → 0 < i → i ≤ k → f i ≡ Some o → Beats K e p i o)

module _ (K : Kind) (law : LawfulKind K) (f : ℕ → Option Candidate) (codes : (e : ℕ) (o : Candidate) → f e ≡ Some o → Code o.2) where
  best_more : (k : ℕ) (b o : Option Candidate) → Best K f k b → f (suc k) ≡ o → Best K f (suc k) (better K b o)
  best_more k None None h n = λ i l m. ⊎_elim (λ j. h i l j) (λ (j : i ≡ suc k). rw j n) (le_more i k m)
  best_more k None (Some o) h s = (
    suc k,
    omega arith,
    omega arith,
    s,
    λ i x l m q.
        ⊎_elim (λ j. absurd (none≢some (h i l j) q))
        (λ (j : i ≡ suc k). let c = codes i x q in let e : o ≡ x = same_some s (rw j at q) in (rw e (no_worse_refl K law x.2 c), λ w. absurd (omega arith)))
        (le_more i k m),
  )
  best_more k (Some p) None h n = (
    h.0,
    h.1,
    omega arith,
    h.3,
    λ i x l m q.
        ⊎_elim (λ j. h.4 i x l j q) (λ (j : i ≡ suc k). absurd (none≢some n (rw j at q))) (le_more i k m),
  )
  best_more k (Some p) (Some o) h s = go (K.no_worse p.2 o.2) refl
    where
      cp : Code p.2
      cp = codes h.0 p h.3

      co : Code o.2
      co = codes (suc k) o s

      go : (t : Bool) → K.no_worse p.2 o.2 ≡ t → Best K f (suc k) (cond t (Some p) (Some o))
      go true t = (
        h.0,
        h.1,
        omega arith,
        h.3,
        λ i x l m q.
            ⊎_elim (λ j. h.4 i x l j q)
            (λ (j : i ≡ suc k). let e : o ≡ x = same_some s (rw j at q) in (rw (← e) t, λ w. absurd (omega arith))) (le_more i k m),
      )
      go false t = (
        suc k,
        omega arith,
        omega arith,
        s,
        λ i x l m q.
            let cx = codes i x q in
            ⊎_elim
            (λ j. let b = h.4 i x l j q in (
              law.trans o.2 p.2 x.2 co cp cx (law.total p.2 o.2 cp co t) b.0,
              λ w. ⊎_elim (λ u. absurd (both_ways (K.no_worse p.2 o.2) t (law.trans p.2 x.2 o.2 cp cx co b.0 u))) (λ u. u) (cases_Bool (K.no_worse x.2 o.2)),
            ))
            (λ (j : i ≡ suc k). let e : o ≡ x = same_some s (rw j at q) in (rw e (no_worse_refl K law x.2 cx), λ w. absurd (omega arith)))
            (le_more i k m),
      )

  pub best_up_to_lem : (k : ℕ) → Best K f k (best_up_to K f k)
  best_up_to_lem zero = λ i l m. absurd (omega arith)
  best_up_to_lem (suc k) = best_more k (best_up_to K f k) (f (suc k)) (best_up_to_lem k) refl

-- there is one best candidate
pub best_unique : (K : Kind) (f : ℕ → Option Candidate) (k : ℕ) (b c : Option Candidate) → Best K f k b → Best K f k c → b ≡ c
best_unique K f k None None x y = refl
best_unique K f k None (Some q) x y = absurd (none≢some (x y.0 y.1 y.2) y.3)
best_unique K f k (Some p) None x y = absurd (none≢some (y x.0 x.1 x.2) x.3)
best_unique K f k (Some p) (Some q) x y =
    ⊎_elim (λ l. absurd (both_ways (K.no_worse p.2 q.2) ((y.4 x.0 p x.1 x.2 x.3).1 l) (x.4 y.0 q y.1 y.2 y.3).0))
    (λ l. ⊎_elim (λ m. absurd (both_ways (K.no_worse q.2 p.2) ((x.4 y.0 q y.1 y.2 y.3).1 m) (y.4 x.0 p x.1 x.2 x.3).0))
    (λ m. let e : x.0 ≡ y.0 = omega arith in let s : f y.0 ≡ Some p = rw e at x.3 in sym s ∙ y.3)
    (cases_lt y.0 x.0))
    (cases_lt x.0 y.0)
