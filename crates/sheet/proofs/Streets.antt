-- What the slot records of a sheet say: the test of a record and its fact, the lowest one at fault, and the streets.
use Rattle.std.proofs.Common.{◌≡◌, ℕ, zero, suc, ◌+◌, ◌<◌, ◌≤◌, Bool, true, false, cond, ◌&&◌, ◌||◌, eqb, ◌==◌, ltb, leb, List, length, take, drop, get_or, get_or-drop, length-drop, Some, None, sym, refl, ap, ◌∙◌, inl, inr, ⊎_elim, add-zero, arith}
use Rattle.std.specs.List.{list_all}
use native.Mathlib.Decide.{ℕ_discrete}
use Rattle.std.proofs.lemmas.Bool.{cases_order, eqb-true, eq-eqb, ne_eqb, le-ltb, le-leb, not-false, not_from_true, not_from_false, and_parts, and_from, and_right, or_from, cond-true, cond-false, cases_Bool, both_ways}
use Rattle.std.proofs.lemmas.List.Folds.{list_all_more}
use Rattle.formats.specs.Bytes.{byte_at}
use Rattle.formats.proofs.Scans.{lowest_in_none, lowest_in_found, lowest_in_before, lowest_in_off}
use Rattle.sheet.specs.Layout.{junction_count, slot_count, slot_record, tail_at, head_at, length_at, filled, sheet_graph}
use Rattle.sheet.specs.Refusal.{blank, wrong_record, bad_record}
use Rattle.sheet.specs.Laws.{ends_within, street_none}
use Rattle.sheet.specs.Meaning.{Right, AllRight, FirstWrong, Says}

blank_each : (bs : List ℕ) (i k : ℕ) → blank bs i k ≡ true → (j : ℕ) → j < k → byte_at bs (i + j) ≡ 0
blank_each bs i zero h j l = absurd (omega arith)
blank_each bs i (suc k) h j l =
    let p = and_parts (blank bs i k) (eqb (byte_at bs (i + k)) 0) h in
    elim (ℕ_discrete j k) [
      | yes e ↦ ap (λ x. byte_at bs (i + x)) e ∙ eqb-true (byte_at bs (i + k)) 0 p.1
      | no n ↦ blank_each bs i k p.0 j (omega arith)
    ]

each_blank : (bs : List ℕ) (i k : ℕ) → ((j : ℕ) → j < k → byte_at bs (i + j) ≡ 0) → blank bs i k ≡ true
each_blank bs i zero h = refl
each_blank bs i (suc k) h = and_from (blank bs i k) (eqb (byte_at bs (i + k)) 0) (each_blank bs i k (λ j l. h j (omega arith))) (eq-eqb (byte_at bs (i + k)) 0 (h k (omega arith)))

-- the same of the bytes as a slice
pub blank_taken : (bs : List ℕ) (i k n : ℕ) → i + k ≤ length bs → n ≡ k → list_all (λ b. b == 0) (take n (drop i bs)) ≡ blank bs i k
blank_taken bs i zero n le e = simp e
blank_taken bs i (suc k) n le e =
    let xs = drop i bs in
    let more : n ≡ k + 1 = omega arith in
    ap (λ m. list_all (λ b. b == 0) (take m xs)) more
    ∙ list_all_more (λ b. b == 0) xs k 0 (omega (arith, length-drop i bs))
    ∙ ap (λ t. t && get_or xs k 0 == 0) (blank_taken bs i k k (omega arith) refl)
    ∙ ap (λ x. blank bs i k && x == 0) (get_or-drop i bs k 0)

-- a record is right exactly if the test finds no fault
record_right : (bs : List ℕ) (e : ℕ) → wrong_record bs e ≡ false → Right bs e
unfolding wrong_record
record_right bs e h =
    ⊎_elim
    (λ t. inl (blank_each bs (slot_record bs e) 10 (not-false _ (sym (cond-true (eqb (tail_at bs e) 0) _ _ t) ∙ h))))
    (λ f. inr (ends_within bs e f h))
    (cases_Bool (eqb (tail_at bs e) 0))

right_record : (bs : List ℕ) (e : ℕ) → Right bs e → wrong_record bs e ≡ false
unfolding wrong_record
right_record bs e =
    ⊎_elim
    (λ m. cond-true (eqb (tail_at bs e) 0) _ _ (eq-eqb (tail_at bs e) 0 (ap (byte_at bs) (sym (add-zero (slot_record bs e))) ∙ m 0 (omega arith)))
    ∙ not_from_true _ (each_blank bs (slot_record bs e) 10 m))
    (λ d. cond-false (eqb (tail_at bs e) 0) _ _ (ne_eqb (tail_at bs e) 0 (λ z. let p = d.0 in omega arith))
    ∙ or_from (ltb (junction_count bs) (tail_at bs e) || eqb (head_at bs e) 0) (ltb (junction_count bs) (head_at bs e))
    (or_from (ltb (junction_count bs) (tail_at bs e)) (eqb (head_at bs e) 0) (le-ltb (junction_count bs) (tail_at bs e) d.1) (ne_eqb (head_at bs e) 0 (λ z. let p = d.2 in omega arith)))
    (le-ltb (junction_count bs) (head_at bs e) d.3))

module _ (bs : List ℕ) where
  pub first_wrong : (bad_record bs ≡ 0 → ⊥) → FirstWrong bs (bad_record bs)
  first_wrong h =
      let P = wrong_record bs in
      let m = slot_count bs in
      let lo : 0 < bad_record bs = omega arith in
      let found = lowest_in_found P 0 m (omega arith) lo in
      record {
        some = lo;
        within = found.0;
        wrong = λ r. both_ways _ (right_record bs (bad_record bs) r) found.1;
        before = λ k p q. record_right bs k (lowest_in_before P 0 m (omega arith) k p q);
      }

  pub all_right : bad_record bs ≡ 0 → AllRight bs
  all_right z e lo hi = record_right bs e (lowest_in_none (wrong_record bs) 0 (slot_count bs) (omega arith) z e lo hi)

  pub none_wrong : AllRight bs → bad_record bs ≡ 0
  none_wrong r = lowest_in_off (wrong_record bs) 0 (slot_count bs) (omega arith) (λ e lo hi. right_record bs e (r e lo hi))

  pub wrong_first : (e : ℕ) → FirstWrong bs e → bad_record bs ≡ e
  wrong_first e w =
      elim (ℕ_discrete (bad_record bs) 0) [
        | yes z ↦ absurd (w.wrong (all_right z e w.some w.within))
        | no n ↦
            let v = first_wrong n in
            ⊎_elim (λ same. same) (⊎_elim (λ l. absurd (v.wrong (w.before (bad_record bs) v.some l))) (λ l. absurd (w.wrong (v.before e w.some l)))) (cases_order (bad_record bs) e)
      ]

  -- the map of the bytes is the one that they say
  pub says : Says bs (sheet_graph bs)
  says =
      let shown : (e : ℕ) (b : Bool) → filled bs e ≡ b → (sheet_graph bs).street e ≡ cond b (Some (tail_at bs e, head_at bs e, length_at bs e)) None =
      λ e b. ap (λ t. cond t (Some (tail_at bs e, head_at bs e, length_at bs e)) None) in
      record {
        junctions = refl;
        slots = refl;
        empty = λ e lo hi z. shown e false (and_right (leb 1 e && leb e (slot_count bs)) _ (not_from_true _ (eq-eqb (tail_at bs e) 0 z)));
        street = λ e lo hi n. shown e true (and_from _ _ (and_from _ _ (le-leb 1 e lo) (le-leb e (slot_count bs) hi)) (not_from_false _ (ne_eqb (tail_at bs e) 0 n)));
        zero = refl;
        beyond = street_none bs;
      }
