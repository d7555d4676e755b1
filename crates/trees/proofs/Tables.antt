-- A tree record read and written, and a list searched.
use Rattle.std.proofs.Common.{◌≡◌, ℕ, zero, suc, ◌-◌, ◌<◌, ◌≤◌, true, eqb, ◌||◌, List, [], ◌∷◌, length, get_or, set, replicate, Some, None, Option, sym, refl, ap, ◌∙◌, ⊎_elim, arith}
use mathlib.Core.Path.{fun_ext}
use Rattle.std.proofs.lemmas.Bool.{cases_eq, cases_lt, eq-eqb}
use Rattle.std.proofs.lemmas.List.Recursion.{or_at}
use Rattle.std.proofs.lemmas.List.{get_or-set_same, get_or-set_other, get_or-replicate, get_or_past, length-replicate}
use Rattle.std.proofs.lemmas.Map.{update_here, update_apart}
use Rattle.std.specs.List.{list_any}
use Rattle.walks.specs.Streets.{member}
use Rattle.walks.specs.Runs.{settle}
use Rattle.trees.specs.declared.BoundedTree.{BoundedTree}
use Rattle.trees.specs.Trees.{entry_of, table_of}

pub table_at : (t : BoundedTree) (v : ℕ) → 0 < v → table_of t v ≡ entry_of (get_or t.slots (v - 1) None) (get_or t.lengths (v - 1) 0)
unfolding table_of
table_at t v h = let s : v ≡ suc (v - 1) = omega arith in ap (table_of t) s

-- the entry of a junction, by what stands for it
pub table_read : (t : BoundedTree) (v i : ℕ) (o : Option ℕ) → 0 < v → i ≡ v - 1 → get_or t.slots i None ≡ o → table_of t v ≡ entry_of o (get_or t.lengths i 0)
table_read t v i o lo is here = table_at t v lo ∙ rw (← is, here) refl

pub table_zero : (t : BoundedTree) → table_of t 0 ≡ None
unfolding table_of
table_zero t = refl

empty_at : (i : ℕ) → get_or {A = Option ℕ} (replicate 128 None) i None ≡ None
empty_at i = ⊎_elim (get_or-replicate 128 i None None) (λ l. get_or_past (replicate 128 None) i None (omega (arith, length-replicate {A = Option ℕ}))) (cases_lt i 128)

pub table_none : (t : BoundedTree) → t.slots ≡ replicate 128 None → table_of t ≡ (λ _. None)
unfolding table_of
table_none t h = fun_ext go
  where
    go : (v : ℕ) → table_of t v ≡ None
    go zero = refl
    go (suc i) = rw (h, empty_at i) refl

pub table_set : (t u : BoundedTree) (v e l : ℕ) → 0 < v → v ≤ length t.slots → v ≤ length t.lengths → u.slots ≡ set t.slots (v - 1) (Some e) → u.lengths ≡ set t.lengths (v - 1) l
    → table_of u ≡ settle (table_of t) (Some (v, e, l))
unfolding table_of
table_set t u v e l lo hi long s d = fun_ext go
  where
    go : (w : ℕ) → table_of u w ≡ settle (table_of t) (Some (v, e, l)) w
    go zero = sym (update_apart (table_of t) v (Some (e, l)) zero (λ z. omega arith))
    go (suc i) =
        ⊎_elim
        (λ (p : suc i ≡ v).
        let q : i ≡ v - 1 = omega arith in
        rw (s, d, ← q, get_or-set_same t.slots i (Some e) None (omega arith), get_or-set_same t.lengths i l 0 (omega arith), ← p)
        (sym (update_here (table_of t) (suc i) (Some (e, l)))))
        (λ p.
        let q : i ≡ v - 1 → ⊥ = λ z. p (omega arith) in
        rw (s, d, get_or-set_other t.slots (v - 1) i (Some e) None q, get_or-set_other t.lengths (v - 1) i l 0 q)
        (sym (update_apart (table_of t) v (Some (e, l)) (suc i) p)))
        (cases_eq (suc i) v)

-- a member is found by the search for it
pub member_any : (xs : List ℕ) (v : ℕ) → member xs v ≡ list_any (λ y. eqb y v) xs
member_any [] v = refl
member_any (x ∷ xs) v = ap (λ b. eqb x v || b) (member_any xs v)

-- a list that has v at i has it
pub member_found : (xs : List ℕ) (i v : ℕ) → i < length xs → get_or xs i 0 ≡ v → member xs v ≡ true
member_found xs i v l e = or_at (λ ys. member ys v) (λ x. eqb x v) refl (λ _ _. refl) xs i 0 l (eq-eqb (get_or xs i 0) v e)
