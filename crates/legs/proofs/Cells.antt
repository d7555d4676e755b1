-- What the cells of a table hold before and after a leg is set.
use Rattle.std.proofs.Common.{◌≡◌, ℕ, zero, suc, ◌^◌, ◌<◌, ◌≤◌, Bool, true, false, cond, eqb, List, length, get_or, set, replicate, is_some as option_is_some, Some, None, Option, sym, refl, ◌∙◌, inl, inr, ⊎_elim, arith}
use mathlib.Core.Path.{fun_ext}
use Rattle.std.proofs.lemmas.Bool.{cases_eq, cases_lt, both_ways, eq-eqb, ne_eqb, and_left, and_right}
use Rattle.std.proofs.lemmas.List.{get_or-set_same, get_or-set_other, get_or_past}
use Rattle.walks.specs.Legs.{Target, leg_between}
use Rattle.walks.proofs.Facts.{none≢some}
use Rattle.walks.proofs.Legs.{between_is}
use Rattle.legs.specs.declared.table.LegTable.{LegTable}
use Rattle.legs.specs.Tables.{cell_of, legs_in, leg_of, no_legs, with_leg}

-- ---- nodes that a leg may join
-- a leg is where one may be
pub leg_between_lem : (t : LegTable) (i j w : ℕ) → leg_of t i j ≡ Some w → leg_between t.count i j ≡ true
unfolding leg_of
leg_between_lem t i j w = go (leg_between t.count i j)
  where
    go : (b : Bool) → cond b (get_or t.cells (cell_of i j) None) None ≡ Some w → b ≡ true
    go true h = refl
    go false h = absurd (none≢some refl h)

-- and its length is a code
pub leg_code : (t : LegTable) (i j w : ℕ) → leg_of t i j ≡ Some w → w < 2 ^ 64
unfolding leg_of
leg_code t i j w h =
    let e : get_or t.cells (cell_of i j) None ≡ Some w = rw (leg_between_lem t i j w h) at h in
    ⊎_elim (λ l. t.coded (cell_of i j) None l w e) (λ l. absurd (none≢some (get_or_past t.cells (cell_of i j) None l) e)) (cases_lt (cell_of i j) (length t.cells))

-- ---- cells
-- the column of a node
column : ℕ → ℕ
column j = cond (eqb j 31) 0 j

column_few : (k j : ℕ) → k ≤ 16 → Target k j → column j ≤ 16
unfolding column
column_few k j few (inl h) = rw (ne_eqb j 31 (omega arith)) (omega arith)
column_few k j few (inr h) = rw (eq-eqb j 31 h) (omega arith)

column_one : (k i j : ℕ) → k ≤ 16 → Target k i → Target k j → column i ≡ column j → i ≡ j
unfolding column
column_one k i j few (inl p) (inl q) h = let e : i ≡ j = rw (ne_eqb i 31 (omega arith), ne_eqb j 31 (omega arith)) at h in e
column_one k i j few (inl p) (inr q) h = let e : i ≡ 0 = rw (ne_eqb i 31 (omega arith), eq-eqb j 31 q) at h in absurd (omega arith)
column_one k i j few (inr p) (inl q) h = let e : 0 ≡ j = rw (eq-eqb i 31 p, ne_eqb j 31 (omega arith)) at h in absurd (omega arith)
column_one k i j few (inr p) (inr q) h = omega arith

-- each leg has a cell of its own
pub cell_few : (k i j : ℕ) → k ≤ 16 → leg_between k i j ≡ true → cell_of i j < 289
unfolding column
cell_few k i j few h = let b = between_is k i j h in let c = column_few k j few b.1 in omega arith

pub cell_one : (k i j a b : ℕ) → k ≤ 16 → leg_between k i j ≡ true → leg_between k a b ≡ true → cell_of i j ≡ cell_of a b → (i ≡ a) × (j ≡ b)
unfolding column
cell_one k i j a b few p q e =
    let x = between_is k i j p in
    let y = between_is k a b q in
    let c = column_few k j few x.1 in
    let d = column_few k b few y.1 in
    let f : column j ≡ column b = omega arith in
    (omega arith, column_one k j b few x.1 y.1 f)

-- ---- a leg that is set
pub leg_set : (k : ℕ) → k ≤ 16 → (a b : ℕ) → leg_between k a b ≡ true → (cells : List (Option ℕ)) (c : ℕ) (o : Option ℕ) → c ≡ cell_of a b → c < length cells
    → legs_in k (set cells c o) ≡ with_leg true a b o (legs_in k cells)
leg_set k few a b m cells c o is lt = fun_ext (λ i. fun_ext (λ j. at i j))
  where
    other : (i j : ℕ) → ((i ≡ a) × (j ≡ b) → ⊥) → legs_in k (set cells c o) i j ≡ legs_in k cells i j
    other i j n = go (leg_between k i j) refl
      where
        go : (v : Bool) → leg_between k i j ≡ v → cond v (get_or (set cells c o) (cell_of i j) None) None ≡ cond v (get_or cells (cell_of i j) None) None
        go true h = get_or-set_other cells c (cell_of i j) o None (λ e. n (cell_one k i j a b few h m (e ∙ is)))
        go false h = refl

    at : (i j : ℕ) → legs_in k (set cells c o) i j ≡ with_leg true a b o (legs_in k cells) i j
    at i j =
        ⊎_elim
        (λ (p : i ≡ a). ⊎_elim
        (λ (q : j ≡ b). rw (p, q, eq-eqb a a refl, eq-eqb b b refl, m, ← is) (get_or-set_same cells c o None lt))
        (λ q. rw (and_right (eqb i a) (eqb j b) (ne_eqb j b q)) (other i j (λ e. q e.1))) (cases_eq j b))
        (λ p. rw (and_left (eqb i a) (eqb j b) (ne_eqb i a p)) (other i j (λ e. p e.0))) (cases_eq i a)

-- ---- none
pub all_none : (n c : ℕ) → get_or (replicate {A = Option ℕ} n None) c None ≡ None
all_none zero c = refl
all_none (suc n) zero = refl
all_none (suc n) (suc c) = all_none n c

-- no cell is filled: no leg
pub no_leg : (k n : ℕ) → legs_in k (replicate n None) ≡ no_legs
no_leg k n = fun_ext (λ i. fun_ext (λ j. go i j (leg_between k i j)))
  where
    go : (i j : ℕ) (b : Bool) → cond b (get_or (replicate {A = Option ℕ} n None) (cell_of i j) None) None ≡ None
    go i j false = refl
    go i j true = all_none n (cell_of i j)

-- ---- what a test of an option tells
pub is_none_lem : (o p : Option ℕ) → o ≡ p → option_is_some o ≡ false → p ≡ None
is_none_lem None p e h = sym e
is_none_lem (Some x) p e h = absurd (both_ways true h refl)

pub is_some : (o p : Option ℕ) → o ≡ p → option_is_some o ≡ true → (x : ℕ) × (p ≡ Some x)
is_some None p e h = absurd (both_ways false refl h)
is_some (Some x) p e h = (x, sym e)
