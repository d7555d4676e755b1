-- The number of closed streets that a tree holds: what it tells, and how it follows one mark.
use Rattle.std.proofs.Common.{◌≡◌, ℕ, zero, suc, ◌+◌, ◌<◌, ◌≤◌, Bool, true, false, eqb, List, Some, None, Option, sym, refl, ap, ◌∙◌, ⊎_elim, arith}
use Rattle.std.proofs.lemmas.Bool.{cases_Bool, cases_eq, both_ways, eqb-true, eq-eqb, ne_eqb, not-false, or_from, or_left, or_right}
use Rattle.maps.specs.Graph.{Graph}
use Rattle.lengths.specs.Kinds.{Kind, LawfulKind}
use Rattle.walks.specs.Streets.{empty_set, Coded}
use Rattle.walks.specs.Runs.{Entry, Table}
use Rattle.walks.specs.Trees.{OnMap, tree, Holds, Affected, slot_in, affected_up_to}
use Rattle.walks.proofs.Facts.{le_more}
use Rattle.walks.proofs.Runs.{settled_on_map}
use Rattle.walks.proofs.Unaffected.{none_in, some_in}
use Rattle.asks.specs.Held.{bit, closed_held, is_affected, marked}
use Rattle.asks.specs.Claims.{AffectedByNumber, NumberFollowsMarks}
use Rattle.asks.proofs.Heads.{one_head}

-- ---- what it tells
pub bit_le : (b : Bool) → bit b ≤ 1
bit_le true = omega arith
bit_le false = omega arith

bit_false : (b : Bool) → b ≡ false → bit b ≡ 0
bit_false b h = rw h

bit_none : (b : Bool) → bit b ≡ 0 → b ≡ false
bit_none true h = absurd (omega arith)
bit_none false h = refl

-- there are no more closed streets in a tree than junctions
pub closed_held_le : (F : ℕ → Bool) (T : Table) (n : ℕ) → closed_held F T n ≤ n
closed_held_le F T zero = omega arith
closed_held_le F T (suc n) = omega (arith, closed_held_le F T n, bit_le (slot_in F (T (suc n))))

-- the number and the test over the junctions say the same
none_affected : (F : ℕ → Bool) (T : Table) (n : ℕ) → closed_held F T n ≡ 0 → affected_up_to F T n ≡ false
none_affected F T zero h = refl
none_affected F T (suc n) h =
    or_from (slot_in F (T (suc n))) (affected_up_to F T n) (bit_none (slot_in F (T (suc n))) (omega arith)) (none_affected F T n (omega arith))

some_affected : (F : ℕ → Bool) (T : Table) (n : ℕ) → 0 < closed_held F T n → affected_up_to F T n ≡ true
some_affected F T zero h = absurd (omega arith)
some_affected F T (suc n) h =
    ⊎_elim (λ p. or_left (slot_in F (T (suc n))) (affected_up_to F T n) p)
    (λ p. or_right (slot_in F (T (suc n))) (affected_up_to F T n) (some_affected F T n (omega (arith, bit_false (slot_in F (T (suc n))) p))))
    (cases_Bool (slot_in F (T (suc n))))

pub number_test : (F : ℕ → Bool) (T : Table) (n : ℕ) → is_affected F T n ≡ affected_up_to F T n
number_test F T n =
    ⊎_elim (λ (z : closed_held F T n ≡ 0). rw (eq-eqb (closed_held F T n) 0 z) (sym (none_affected F T n z)))
    (λ z. rw (ne_eqb (closed_held F T n) 0 z) (sym (some_affected F T n (omega arith)))) (cases_eq (closed_held F T n) 0)

module _ (K : Kind) (law : LawfulKind K) (G : Graph) (map : Coded G) (ns : List ℕ) (v : ℕ) (on : OnMap G v) (F : ℕ → Bool) where
  -- a tree whose number is zero holds no closed street
  pub zero_unaffected : closed_held F (tree K G ns v) G.junctions ≡ 0 → Affected F (tree K G ns v) → ⊥
  zero_unaffected h a =
      let x = a.1.1 in
      let o = settled_on_map K law G map ns empty_set v on x.0 a.0 x.1 x.2 in
      let c = none_in F (tree K G ns v) G.junctions (none_affected F (tree K G ns v) G.junctions h) x.0 o.0 o.1 in
      both_ways (F a.0) (rw x.2 at c) a.2

  -- nor does one that the test passes
  pub test_unaffected : is_affected F (tree K G ns v) G.junctions ≡ false → Affected F (tree K G ns v) → ⊥
  test_unaffected h =
      let k = closed_held F (tree K G ns v) G.junctions in
      zero_unaffected (eqb-true k 0 (not-false (eqb k 0) h))

pub affected_by_number : AffectedByNumber
affected_by_number K law G map ns v on F z =
    let T = tree K G ns v in
    record {
      none = zero_unaffected K law G map ns v on F;
      some = λ h. some_in F T z G.junctions (some_affected F T G.junctions h);
      test = (λ h. some_in F T z G.junctions (sym (number_test F T G.junctions) ∙ h), test_unaffected K law G map ns v on F);
    }

-- ---- one mark
module _ (F : ℕ → Bool) (T : Table) (e : ℕ) (b : Bool) where
  abbrev F' : ℕ → Bool
  F' = marked F e b

  mark_here : (l : ℕ) → slot_in F' (Some (e, l)) ≡ b
  mark_here l = rw (eq-eqb e e refl)

  mark_apart : (o : Option Entry) → ((l : ℕ) → o ≡ Some (e, l) → ⊥) → slot_in F' o ≡ slot_in F o
  mark_apart None h = refl
  mark_apart (Some x) h =
      rw (ne_eqb x.0 e (λ p. h x.1 (ap (λ (i : ℕ). Some (i, x.1)) p)))

  -- where no junction is settled by e, the number stays
  pub held_apart : (k : ℕ) → ((v l : ℕ) → 0 < v → v ≤ k → T v ≡ Some (e, l) → ⊥) → closed_held F' T k ≡ closed_held F T k
  held_apart zero h = refl
  held_apart (suc k) h =
      let x = mark_apart (T (suc k)) (λ l. h (suc k) l (omega arith) (omega arith)) in
      let y : bit (slot_in F' (T (suc k))) ≡ bit (slot_in F (T (suc k))) = ap bit x in
      omega (arith, held_apart k (λ v l lo hi. h v l lo (omega arith)))

  -- where one is, it changes as the mark does
  pub held_here : (v l : ℕ) → T v ≡ Some (e, l) → ((u k : ℕ) → T u ≡ Some (e, k) → u ≡ v) → (k : ℕ) → 0 < v → v ≤ k
      → closed_held F' T k + bit (F e) ≡ closed_held F T k + bit b
  held_here v l s one zero lo hi = absurd (omega arith)
  held_here v l s one (suc k) lo hi =
      ⊎_elim
      (λ j.
      let x = mark_apart (T (suc k)) (λ i q. omega (arith, one (suc k) i q)) in
      let y : bit (slot_in F' (T (suc k))) ≡ bit (slot_in F (T (suc k))) = ap bit x in
      omega (arith, held_here v l s one k lo j))
      (λ (j : v ≡ suc k).
      let t : T (suc k) ≡ Some (e, l) = rw (← j) s in
      let x : bit (slot_in F' (T (suc k))) ≡ bit b = ap (λ (o : Option Entry). bit (slot_in F' o)) t ∙ ap bit (mark_here l) in
      let y : bit (slot_in F (T (suc k))) ≡ bit (F e) = ap (λ (o : Option Entry). bit (slot_in F o)) t in
      omega (arith, held_apart k (λ u i p q r. omega (arith, one u i r))))
      (le_more v k hi)

pub number_follows_marks : NumberFollowsMarks
number_follows_marks K law G map ns v on F e pos =
    record {
      close = λ q h. let y : bit (F e) ≡ 0 = ap bit q in omega (arith, here true h);
      reopen = λ q h. let y : bit (F e) ≡ 1 = ap bit q in omega (arith, here false h);
      apart = λ b h. held_apart F T e b G.junctions (λ u l lo hi q. h (pos, (u, l, q)));
    }
  where
    T : Table
    T = tree K G ns v

    here : (b : Bool) → Holds T e → closed_held (marked F e b) T G.junctions + bit (F e) ≡ closed_held F T G.junctions + bit b
    here b h =
        let x = h.1 in
        let o = settled_on_map K law G map ns empty_set v on x.0 e x.1 x.2 in
        held_here F T e b x.0 x.1 x.2 (λ u k q. one_head K law G map ns v e u x.0 k x.1 pos q x.2) G.junctions o.0 o.1
