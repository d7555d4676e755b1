-- What the links of a sheet say: the test of a chain and its fact, and that no link is wrong exactly if the sheet is linked.
use Rattle.std.proofs.Common.{◌≡◌, ℕ, zero, suc, ◌+◌, ◌-◌, ◌<◌, ◌≤◌, true, false, ◌&&◌, eqb, ltb, leb, List, Some, None, Option, sym, refl, ap, ◌∙◌, subst, arith}
use Rattle.std.specs.Option.{option_eq}
use native.Mathlib.Decide.{dec_le}
use Rattle.std.proofs.lemmas.Bool.{eqb-true, ltb-true, eq-eqb, lt-ltb, ne_eqb, and_parts, and_from, and_left, and_right, le-ltb, or_parts, not-false, cond-true, cond-false, le-leb, lt-leb, or_from, not_from_true}
use Rattle.maps.specs.Graph.{Street, Graph, Lowest, LawfulMap, Placed}
use Rattle.formats.specs.Scan.{optional}
use Rattle.formats.proofs.Lowests.{lowest_map, lowest_unique}
use Rattle.formats.proofs.Scans.{lowest_in_of_all, lowest_in_none, lowest_in_off}
use Rattle.sheet.specs.declared.records.Chain.{Chain}
use Rattle.sheet.specs.declared.records.Chain.TheVariants.{Leaving, Entering}
use Rattle.sheet.specs.Layout.{junction_count, slot_count, sheet_graph, street_at}
use Rattle.sheet.specs.Chains.{first_link, next_link, end_of, OnChain, on_chain, lowest_on}
use Rattle.sheet.specs.Refusal.{wrong_link, wrong_links, bad_link}
use Rattle.sheet.specs.Laws.{street_none}
use Rattle.sheet.specs.Meaning.{Linked}

-- ---- a number that stands for none, as an answer
pub equal_optional : (a b : ℕ) → option_eq eqb (optional a) (optional b) ≡ eqb a b
equal_optional zero zero = refl
equal_optional zero (suc b) = sym (ne_eqb 0 (suc b) (λ e. absurd (omega arith)))
equal_optional (suc a) zero = sym (ne_eqb (suc a) 0 (λ e. absurd (omega arith)))
equal_optional (suc a) (suc b) = refl

pub equal_some : (a b : ℕ) → option_eq eqb (optional a) (Some b) ≡ (ltb 0 b && eqb a b)
equal_some zero zero = refl
equal_some zero (suc b) = sym (and_right (ltb 0 (suc b)) _ (ne_eqb 0 (suc b) (λ e. absurd (omega arith))))
equal_some (suc a) zero = ne_eqb (suc a) 0 (λ e. absurd (omega arith)) ∙ sym (and_left (ltb 0 0) (eqb (suc a) 0) refl)
equal_some (suc a) (suc b) = sym (ap (λ t. t && eqb (suc a) (suc b)) (lt-ltb 0 (suc b) (omega arith)))

-- ---- the test of a chain
pub on_chain_lem : (g : Graph) (c : Chain) (v e : ℕ) → OnChain g c v e → on_chain g c v e ≡ true
on_chain_lem g c v e h = and_from (ltb 0 v) (eqb (end_of c (g.street e)) v) (lt-ltb 0 v h.0) (eq-eqb (end_of c (g.street e)) v h.1)

on_fact : (g : Graph) (c : Chain) (v e : ℕ) → on_chain g c v e ≡ true → OnChain g c v e
on_fact g c v e h =
    let p = and_parts (ltb 0 v) (eqb (end_of c (g.street e)) v) h in
    (ltb-true 0 v p.0, eqb-true (end_of c (g.street e)) v p.1)

pub off_zero : (g : Graph) (c : Chain) (v e : ℕ) → v ≤ 0 → on_chain g c v e ≡ false
off_zero g c v e h = and_left (ltb 0 v) (eqb (end_of c (g.street e)) v) (le-ltb 0 v h)

pub off_other : (g : Graph) (c : Chain) (v e : ℕ) → (end_of c (g.street e) ≡ v → ⊥) → on_chain g c v e ≡ false
off_other g c v e h = and_right (ltb 0 v) (eqb (end_of c (g.street e)) v) (ne_eqb (end_of c (g.street e)) v h)

-- no street is on the chain of no junction
pub lowest_off : (g : Graph) (c : Chain) (v a : ℕ) → a ≤ g.slots → None ≡ optional v → None ≡ optional (lowest_on g c v a)
lowest_off g c zero a le e = ap optional (sym (lowest_in_off (on_chain g c 0) a g.slots le (λ k _ _. off_zero g c 0 k (omega arith))))
lowest_off g c (suc v) a le e = cc

-- an absent street has no end
end_absent : (c : Chain) (o : Option Street) → o ≡ None → end_of c o ≡ 0
end_absent Leaving o e = ap (end_of Leaving) e
end_absent Entering o e = ap (end_of Entering) e

-- what a link should hold is the lowest street by the map's meaning
lowest_on_lem : (bs : List ℕ) (c : Chain) (v a : ℕ) → Lowest (OnChain (sheet_graph bs) c v) a (optional (lowest_on (sheet_graph bs) c v a))
lowest_on_lem bs c v a =
    let g = sheet_graph bs in
    lowest_map (on_fact g c v) (on_chain_lem g c v)
    (lowest_in_of_all (on_chain g c v) a g.slots
    (λ k hi t. let o = on_fact g c v k t in let z = end_absent c (g.street k) (street_none bs k hi) in omega arith))

-- no chain runs at a junction off the map
end_few : (n : ℕ) (c : Chain) (o : Option Street) → Placed n o → end_of c o ≤ n
end_few n Leaving None p = omega arith
end_few n Leaving (Some s) p = p.1
end_few n Entering None p = omega arith
end_few n Entering (Some s) p = p.3

pub none_off : (g : Graph) → LawfulMap g → (c : Chain) (v : ℕ) → (0 < v → g.junctions < v) → Lowest (OnChain g c v) 0 None
none_off g w c v off = record {
  above = tt;
  here = tt;
  gap = λ k lo _ o. let f = end_few g.junctions c (g.street k) (w.placed k) in let far = off o.0 in let is = o.1 in omega arith;
}

-- ---- where no record has a wrong link, the sheet is linked
module _ (bs : List ℕ) (right : bad_link bs ≡ 0) where
  link_right : (c : Chain) (r : ℕ) → 0 < r → r ≤ junction_count bs + slot_count bs → wrong_link bs c r ≡ false
  link_right c r lo hi =
      let p = or_parts (wrong_link bs Leaving r) (wrong_link bs Entering r)
      (lowest_in_none (wrong_links bs) 0 (junction_count bs + slot_count bs) (omega arith) right r lo hi) in
      elim c as (λ c. wrong_link bs c r ≡ false) [ Leaving ↦ p.0 | Entering ↦ p.1 ]

  first_right : (c : Chain) (v : ℕ) → 0 < v → v ≤ junction_count bs → first_link bs c v ≡ lowest_on (sheet_graph bs) c v 0
  unfolding wrong_link
  first_right c v lo hi =
      eqb-true (first_link bs c v) (lowest_on (sheet_graph bs) c v 0)
      (not-false _ (sym (cond-true (leb v (junction_count bs)) _ _ (le-leb v (junction_count bs) hi)) ∙ link_right c v lo (omega arith)))

  next_right : (c : Chain) (e : ℕ) → 0 < e → e ≤ slot_count bs → next_link bs c e ≡ lowest_on (sheet_graph bs) c (end_of c (street_at bs e)) e
  unfolding wrong_link
  next_right c e lo hi =
      let n = junction_count bs in
      let d = n + e - n in
      let is : d ≡ e = omega arith in
      let P : ℕ → Type 0 = λ x. next_link bs c x ≡ lowest_on (sheet_graph bs) c (end_of c (street_at bs x)) x in
      subst P is
      (eqb-true (next_link bs c d) (lowest_on (sheet_graph bs) c (end_of c (street_at bs d)) d)
      (not-false _ (sym (cond-false (leb (n + e) n) _ _ (lt-leb (n + e) n (omega arith))) ∙ link_right c (n + e) (omega arith) (omega arith))))

  pub linked : Linked bs
  linked = record {
    first = λ c v lo hi. subst (λ x. Lowest (OnChain (sheet_graph bs) c v) 0 (optional x)) (sym (first_right c v lo hi)) (lowest_on_lem bs c v 0);
    next = λ c e lo hi.
        subst (λ x. Lowest (OnChain (sheet_graph bs) c (end_of c (street_at bs e))) e (optional x)) (sym (next_right c e lo hi))
        (lowest_on_lem bs c (end_of c (street_at bs e)) e);
  }

-- ---- and only there
same_link : (a b : ℕ) → optional a ≡ optional b → a ≡ b
same_link zero zero e = refl
same_link zero (suc b) e = cc
same_link (suc a) zero e = cc
same_link (suc a) (suc b) e = cc

module _ (bs : List ℕ) (l : Linked bs) where
  -- the link that a chain has is the one that it should have
  one_link : (c : Chain) (v a k : ℕ) → Lowest (OnChain (sheet_graph bs) c v) a (optional k) → eqb k (lowest_on (sheet_graph bs) c v a) ≡ true
  one_link c v a k h =
      eq-eqb k (lowest_on (sheet_graph bs) c v a)
      (same_link k (lowest_on (sheet_graph bs) c v a) (lowest_unique (OnChain (sheet_graph bs) c v) a (optional k) (optional (lowest_on (sheet_graph bs) c v a)) h (lowest_on_lem bs c v a)))

  right_link : (c : Chain) (r : ℕ) → 0 < r → r ≤ junction_count bs + slot_count bs → wrong_link bs c r ≡ false
  unfolding wrong_link
  right_link c r lo hi =
      elim (dec_le r (junction_count bs)) [
        | yes p ↦ cond-true (leb r (junction_count bs)) _ _ (le-leb r (junction_count bs) p) ∙ not_from_true _ (one_link c r 0 (first_link bs c r) (l.first c r lo p))
        | no q ↦
            let e = r - junction_count bs in
            cond-false (leb r (junction_count bs)) _ _ (lt-leb r (junction_count bs) (omega arith))
            ∙ not_from_true _ (one_link c (end_of c (street_at bs e)) e (next_link bs c e) (l.next c e (omega arith) (omega arith)))
      ]

  pub linked_none : bad_link bs ≡ 0
  linked_none =
      lowest_in_off (wrong_links bs) 0 (junction_count bs + slot_count bs) (omega arith)
      (λ r lo hi. or_from (wrong_link bs Leaving r) (wrong_link bs Entering r) (right_link Leaving r lo hi) (right_link Entering r lo hi))
