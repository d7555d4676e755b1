-- Closed marks as a set of slots, and that a run depends on the set only slot by slot.
use Rattle.std.proofs.Common.{◌≡◌, ℕ, zero, suc, ◌-◌, ◌<◌, ◌≤◌, Bool, false, cond, eqb, ◌⊎◌, List, [], ◌∷◌, length, get_or, set, replicate, refl, ap, ◌∙◌, ⊎_elim, arith}
use mathlib.Core.Path.{fun_ext}
use Rattle.std.proofs.lemmas.Bool.{cases_eq, eq-eqb, ne_eqb}
use Rattle.std.proofs.lemmas.List.{get_or-set_same, get_or-set_other}
use Rattle.maps.specs.Graph.{Graph}
use Rattle.lengths.specs.Kinds.{Kind}
use Rattle.walks.specs.Streets.{empty_set}
use Rattle.walks.specs.Runs.{bounded_run}
use Rattle.walks.proofs.Lists.{none_marked}
use Rattle.trees.specs.Marks.{closed_in}
use Rattle.trees.specs.Runs.{run_on}

-- marks that are all false close nothing
pub none_closed : (marks : List Bool) → ((i : ℕ) → get_or marks i false ≡ false) → closed_in marks ≡ empty_set
none_closed marks h = fun_ext go
  where
    go : (e : ℕ) → closed_in marks e ≡ false
    go zero = refl
    go (suc i) = h i

pub replicate_closed : (k : ℕ) → closed_in (replicate k false) ≡ empty_set
replicate_closed k = none_closed (replicate k false) (none_marked k)

-- past its end a list of marks has none
pub get_d_past : (marks : List Bool) (i : ℕ) → length marks ≤ i → get_or marks i false ≡ false
get_d_past [] i h = refl
get_d_past (x ∷ xs) zero h = absurd (omega arith)
get_d_past (x ∷ xs) (suc i) h = get_d_past xs i (omega arith)

pub closed_at : (marks : List Bool) (e : ℕ) → 0 < e → closed_in marks e ≡ get_or marks (e - 1) false
closed_at marks e h = let s : e ≡ suc (e - 1) = omega arith in ap (closed_in marks) s

-- a slot past the marks, and slot 0, are not closed
pub closed_past : (marks : List Bool) (e : ℕ) → (e ≡ 0) ⊎ (length marks < e) → closed_in marks e ≡ false
closed_past marks e h =
    ⊎_elim (λ (z : e ≡ 0). ap (closed_in marks) z)
    (λ l. closed_at marks e (omega arith) ∙ get_d_past marks (e - 1) (omega arith)) h

-- a mark that is set changes its slot alone
pub set_closed : (marks : List Bool) (e : ℕ) (b : Bool) → 0 < e → e ≤ length marks → closed_in (set marks (e - 1) b) ≡ (λ i. cond (eqb i e) b (closed_in marks i))
set_closed marks e b lo hi = fun_ext go
  where
    go : (v : ℕ) → closed_in (set marks (e - 1) b) v ≡ cond (eqb v e) b (closed_in marks v)
    go zero = rw (ne_eqb 0 e (λ z. omega arith))
    go (suc i) =
        ⊎_elim
        (λ (p : suc i ≡ e).
        let q : i ≡ e - 1 = omega arith in
        rw (← q, get_or-set_same marks i b false (omega arith), eq-eqb (suc i) e p))
        (λ p.
        let q : i ≡ e - 1 → ⊥ = λ z. p (omega arith) in
        rw (get_or-set_other marks (e - 1) i b false q, ne_eqb (suc i) e p))
        (cases_eq (suc i) e)

-- the run for two sets that have the same slots
pub run_same : (K : Kind) (G : Graph) (ns : List ℕ) (F E : ℕ → Bool) (r : ℕ) → ((e : ℕ) → F e ≡ E e) → bounded_run K G ns F r ≡ bounded_run K G ns E r
run_same K G ns F E r h = let same : F ≡ E = fun_ext h in ap (λ (X : ℕ → Bool). bounded_run K G ns X r) same

pub run_on_same : (K : Kind) (G : Graph) (ns : List ℕ) (F E : ℕ → Bool) (r : ℕ) → ((e : ℕ) → F e ≡ E e) → run_on K G ns F r ≡ run_on K G ns E r
run_on_same K G ns F E r h = let same : F ≡ E = fun_ext h in ap (λ (X : ℕ → Bool). run_on K G ns X r) same
