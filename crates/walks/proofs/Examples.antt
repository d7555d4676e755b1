-- The solved examples: the tables by computation, and the slots that they hold.
use Rattle.std.proofs.Common.{◌≡◌, ℕ, true, false, eqb, [], ◌∷◌, Some, None, refl, ap, ⊎_elim, arith, lit<}
use Rattle.std.proofs.lemmas.Bool.{both_ways, eqb-true, or_cases}
use Rattle.std.specs.Map.{update}
use Rattle.lengths.specs.Kinds.{Kind, paces}
use Rattle.walks.specs.Streets.{member}
use Rattle.walks.specs.Runs.{Entry, Table, first_table}
use Rattle.walks.specs.Trees.{Tells, Holds}
use Rattle.walks.specs.Examples.{tree_of2, tree_of1, Solved}
use Rattle.walks.proofs.Facts.{none≢some}
use Rattle.walks.proofs.Candidates.{settled_cases}

-- the first table holds no street
first_holds : (K : Kind) (r : ℕ) (P : ℕ → Type 0) (e : ℕ) → Holds (first_table K r) e → P e
first_holds K r P e h =
    ⊎_elim (λ p. let z : e ≡ 0 = ap (λ (x : Entry). x.0) p.1 in absurd (omega (arith, h.0)))
    (λ (n : None ≡ Some (e, h.1.1)). absurd (none≢some refl n)) (settled_cases (λ _. None) r (0, K.zero) h.1.0 (e, h.1.1) h.1.2)

-- a junction more holds its slot more
more_holds : (T : Table) (v : ℕ) (b : Entry) (P : ℕ → Type 0) → P b.0 → ((e : ℕ) → Holds T e → P e) → (e : ℕ) → Holds (update eqb T v (Some b)) e → P e
more_holds T v b P here rest e h =
    ⊎_elim (λ p. let z : e ≡ b.0 = ap (λ (x : Entry). x.0) p.1 in rw z here)
    (λ s. rest e (h.0, (h.1.0, h.1.1, s))) (settled_cases T v b h.1.0 (e, h.1.1) h.1.2)

-- three slots are held, and no other
three_held : (T : Table) (i j k : ℕ) → Holds T i → Holds T j → Holds T k → ((e : ℕ) → Holds T e → member (i ∷ j ∷ k ∷ []) e ≡ true)
    → (e : ℕ) → Tells (member (i ∷ j ∷ k ∷ []) e) (Holds T e)
three_held T i j k hi hj hk all e = (
  λ h.
      ⊎_elim (λ p. held i hi p)
      (λ p. ⊎_elim (λ q. held j hj q) (λ q. ⊎_elim (λ s. held k hk s) (λ s. absurd (both_ways false refl s)) (or_cases (eqb k e) false q)) (or_cases (eqb j e) (member (k ∷ []) e) p))
      (or_cases (eqb i e) (member (j ∷ k ∷ []) e) h),
  λ h x. both_ways (member (i ∷ j ∷ k ∷ []) e) h (all e x),
)
  where
    held : (a : ℕ) → Holds T a → eqb a e ≡ true → Holds T e
    held a h p = let z : a ≡ e = eqb-true a e p in rw z at h

-- a table of three settled junctions beside the root
abbrev three : ℕ → ℕ → Entry → ℕ → Entry → ℕ → Entry → Table
three r u a v b w c = update eqb (update eqb (update eqb (first_table paces r) u (Some a)) v (Some b)) w (Some c)

only_three : (r u : ℕ) (a : Entry) (v : ℕ) (b : Entry) (w : ℕ) (c : Entry) (P : ℕ → Type 0) → P a.0 → P b.0 → P c.0
    → (e : ℕ) → Holds (three r u a v b w c) e → P e
only_three r u a v b w c P pa pb pc =
    let A = update eqb (first_table paces r) u (Some a) in
    more_holds (update eqb A v (Some b)) w c P pc (more_holds A v b P pb (more_holds (first_table paces r) u a P pa (first_holds paces r P)))

slots_2 : (e : ℕ) → Tells (member (2 ∷ 5 ∷ 3 ∷ []) e) (Holds tree_of2 e)
slots_2 =
    three_held tree_of2 2 5 3 (lit< tt, (4, 4, refl)) (lit< tt, (1, 5, refl)) (lit< tt, (3, 10, refl))
    (only_three 2 4 (2, 4) 1 (5, 5) 3 (3, 10) (λ e. member (2 ∷ 5 ∷ 3 ∷ []) e ≡ true) refl refl refl)

slots_1 : (e : ℕ) → Tells (member (1 ∷ 2 ∷ 3 ∷ []) e) (Holds tree_of1 e)
slots_1 =
    three_held tree_of1 1 2 3 (lit< tt, (2, 1, refl)) (lit< tt, (3, 1, refl)) (lit< tt, (4, 2, refl))
    (only_three 1 2 (1, 1) 3 (2, 1) 4 (3, 2) (λ e. member (1 ∷ 2 ∷ 3 ∷ []) e ≡ true) refl refl refl)

pub solved : Solved
solved =
    record {
      slots_2 = slots_2;
      at_4 = refl;
      at_1 = refl;
      at_3 = refl;
      at_2 = refl;
      slots_1 = slots_1;
      tie = refl;
      affects = refl;
      survives = refl;
      all_open = refl;
      closed_2 = refl;
      no_way = refl;
      to_itself = refl;
      closed_4 = refl;
      widest = refl;
      widest_zero = refl;
    }
