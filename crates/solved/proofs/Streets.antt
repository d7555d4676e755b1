-- A map whose slots answer as listed is the map that is written so; and a tree holds just the slots that the test finds.
use Rattle.std.proofs.Common.{◌≡◌, ℕ, zero, suc, ◌+◌, ◌<◌, ◌≤◌, Bool, true, false, not, ◌&&◌, ◌||◌, eqb, List, [], ◌∷◌, length, Some, None, Option, sym, refl, ap, ◌∙◌, ⊎_elim, arith}
use Rattle.std.proofs.lemmas.Bool.{and_parts, eqb-true, both_ways, or_cases, cases_lt, not-true}
use Rattle.std.specs.List.{range_with_len}
use Rattle.maps.specs.Graph.{Street, Graph, LawfulMap}
use Rattle.walks.specs.Streets.{Streets, member, Coded}
use Rattle.walks.specs.Runs.{Table}
use Rattle.walks.specs.Trees.{Tells, Holds, head_settled_by, holds_street}
use Rattle.solved.specs.Rows.{slots_of, written}
use Rattle.solved.proofs.Same.{same_street, same_street_lem}
use Rattle.solved.proofs.Tested.{every, same_streets, says_map, held_just}

-- ---- listed slots
none_at_zero : (os : List (Option Street)) → slots_of os 0 ≡ None
none_at_zero [] = refl
none_at_zero (o ∷ os) = refl

none_beyond : (os : List (Option Street)) (e : ℕ) → length os < e → slots_of os e ≡ None
none_beyond [] e l = refl
none_beyond (o ∷ os) zero l = refl
none_beyond (o ∷ os) (suc zero) l = absurd (omega arith)
none_beyond (o ∷ os) (suc (suc e)) l = none_beyond os (suc e) (omega arith)

listed_at : (g : Streets) (a : ℕ) (os : List (Option Street)) → same_streets g a os ≡ true → (e : ℕ) → 0 < e → e ≤ length os → g (a + e) ≡ slots_of os e
listed_at g a [] h e lo hi = absurd (omega arith)
listed_at g a (o ∷ os) h zero lo hi = absurd (omega arith)
listed_at g a (o ∷ os) h (suc zero) lo hi =
    let p = and_parts (same_street (g (suc a)) o) (same_streets g (suc a) os) h in
    let at : a + 1 ≡ suc a = omega arith in
    ap g at ∙ same_street_lem (g (suc a)) o p.0
listed_at g a (o ∷ os) h (suc (suc e)) lo hi =
    let p = and_parts (same_street (g (suc a)) o) (same_streets g (suc a) os) h in
    let at : a + suc (suc e) ≡ suc a + suc e = omega arith in
    ap g at ∙ listed_at g (suc a) os p.1 (suc e) (omega arith) (omega arith)

-- every slot number answers alike
listed_all : (G : Graph) → LawfulMap G → (os : List (Option Street)) → G.slots ≡ length os → same_streets G.street 0 os ≡ true → (e : ℕ) → G.street e ≡ slots_of os e
listed_all G map os m h zero = map.no_zero ∙ sym (none_at_zero os)
listed_all G map os m h (suc e) =
    ⊎_elim (λ l. map.no_more (suc e) (omega arith) ∙ sym (none_beyond os (suc e) l))
    (λ l. let at : 0 + suc e ≡ suc e = omega arith in sym (ap G.street at) ∙ listed_at G.street 0 os h (suc e) (omega arith) l) (cases_lt (length os) (suc e))

same_map : (G H : Graph) → G.junctions ≡ H.junctions → G.slots ≡ H.slots → ((e : ℕ) → G.street e ≡ H.street e) → G ≡ H
same_map G H n m s = λ i. record { junctions = n i; slots = m i; street = λ e. s e i }

-- the map is the one that is written
pub is_written : (G : Graph) → LawfulMap G → (n : ℕ) (os : List (Option Street)) → says_map G n os ≡ true → G ≡ written n os
is_written G map n os h =
    let p = and_parts (eqb G.junctions n && eqb G.slots (length os)) (same_streets G.street 0 os) h in
    let q = and_parts (eqb G.junctions n) (eqb G.slots (length os)) p.0 in
    let m = eqb-true G.slots (length os) q.1 in
    same_map G (written n os) (eqb-true G.junctions n q.0) m (listed_all G map os m p.1)

-- ---- the slots that a tree holds
every_member : (t : ℕ → Bool) (es : List ℕ) → every t es ≡ true → (e : ℕ) → member es e ≡ true → t e ≡ true
every_member t [] h e m = absurd (both_ways false refl m)
every_member t (x ∷ es) h e m =
    let p = and_parts (t x) (every t es) h in
    ⊎_elim (λ q. ap t (sym (eqb-true x e q)) ∙ p.0) (λ q. every_member t es p.1 e q) (or_cases (eqb x e) (member es e) m)

every_counted : (t : ℕ → Bool) (a k : ℕ) → every t (range_with_len a k) ≡ true → (e : ℕ) → a ≤ e → e < a + k → t e ≡ true
every_counted t a zero h e lo hi = absurd (omega arith)
every_counted t a (suc k) h e lo hi =
    let p = and_parts (t a) (every t (range_with_len (a + 1) k)) h in
    ⊎_elim (λ l. every_counted t (a + 1) k p.1 e (omega arith) (omega arith))
    (λ l. let z : e ≡ a = omega arith in ap t z ∙ p.0) (cases_lt a e)

street_there : (T : Table) (e : ℕ) (o : Option Street) → head_settled_by T e o ≡ true → (a : Street) × (o ≡ Some a)
street_there T e None h = absurd (both_ways false refl h)
street_there T e (Some a) h = (a, refl)

pub holds_just : (G : Graph) → Coded G → (T : Table) → ((e : ℕ) → Tells (holds_street G T e) (Holds T e)) → (es : List ℕ) → held_just G T es ≡ true
    → (e : ℕ) → Tells (member es e) (Holds T e)
holds_just G map T told es h e =
    let p = and_parts (every (holds_street G T) es) (every (λ x. not (holds_street G T x) || member es x) (range_with_len 1 G.slots)) h in (
      λ m. (told e).0 (every_member (holds_street G T) es p.0 e m),
      λ m held. found m held (holds_street G T e) refl p.1,
    )
  where
    found : member es e ≡ false → Holds T e → (b : Bool) → holds_street G T e ≡ b → every (λ x. not (holds_street G T x) || member es x) (range_with_len 1 G.slots) ≡ true → ⊥
    found m held false q all = (told e).1 q held
    found m held true q all =
        let a = street_there T e (G.street e) q in
        let w = map.slots e a.0 a.1 in
        ⊎_elim (λ n. both_ways (holds_street G T e) (not-true (holds_street G T e) n) q) (λ n. both_ways (member es e) m n)
        (or_cases (not (holds_street G T e)) (member es e) (every_counted (λ x. not (holds_street G T x) || member es x) 1 G.slots all e (omega arith) (omega arith)))
