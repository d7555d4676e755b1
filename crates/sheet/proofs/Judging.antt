-- The number of a refusal means what the layout says.
use Rattle.std.proofs.Common.{◌≡◌, ℕ, true, false, cond, not, ◌||◌, eqb, ltb, List, length, sym, ap, ◌∙◌, subst, ⊎_elim, arith}
use Rattle.std.proofs.lemmas.Bool.{lt-ltb, ltb-true, ltb-false, eqb-true, eqb-false, eq-eqb, ne_eqb, le-ltb, or_from, cond-true, cond-false, cond_both, cases_Bool, both_ways}
use Rattle.formats.specs.Bytes.{byte_at}
use Rattle.formats.proofs.Verdicts.{pass, equal, unequal, agree, differ}
use Rattle.sheet.specs.Layout.{junction_count, slot_count, sheet_length, tail_at}
use Rattle.sheet.specs.Refusal.{bad_record, bad_link, out_of_range, refusal}
use Rattle.sheet.specs.Laws.{in_range}
use Rattle.sheet.specs.Meaning.{InRange, FirstWrong, Frame, Judged, short, other, ranged, inexact, unempty, unended, unlinked, admitted}
use Rattle.sheet.proofs.Links.{linked, linked_none}
use Rattle.sheet.proofs.Streets.{first_wrong, wrong_first, all_right, none_wrong}

range_in : (bs : List ℕ) → InRange bs → out_of_range bs ≡ false
range_in bs h =
    or_from (eqb (junction_count bs) 0 || ltb 128 (junction_count bs)) (ltb 512 (slot_count bs))
    (or_from (eqb (junction_count bs) 0) (ltb 128 (junction_count bs)) (ne_eqb (junction_count bs) 0 (λ z. let p = h.0 in omega arith)) (le-ltb 128 (junction_count bs) h.1))
    (le-ltb 512 (slot_count bs) h.2)

-- each number is returned on its condition
pub judged : (bs : List ℕ) → Judged bs (refusal bs)
judged bs =
    cond_both (ltb (length bs) 4) 1 _ (Judged bs) (λ t. short (ltb-true (length bs) 4 t)) (λ f1.
    let long = ltb-false (length bs) 4 f1 in
    cond_both (not (eqb (byte_at bs 0) 0x53)) 2 _ (Judged bs) (λ t. other long (unequal (byte_at bs 0) 0x53 t)) (λ f2.
    let kind = equal (byte_at bs 0) 0x53 f2 in
    cond_both (out_of_range bs) 3 _ (Judged bs) (λ t. ranged long kind (λ r. both_ways _ (range_in bs r) t)) (λ f3.
    let range = in_range bs f3 in
    cond_both (not (eqb (length bs) (sheet_length bs))) 4 _ (Judged bs) (λ t. inexact long kind range (unequal (length bs) (sheet_length bs) t)) (λ f4.
    let frame : Frame bs = record { long = long; kind = kind; range = range; size = equal (length bs) (sheet_length bs) f4 } in
    cond_both (not (eqb (bad_record bs) 0)) (cond (eqb (tail_at bs (bad_record bs)) 0) 5 6) _ (Judged bs)
    (λ t.
    let w = first_wrong bs (unequal (bad_record bs) 0 t) in
    cond_both (eqb (tail_at bs (bad_record bs)) 0) 5 6 (Judged bs)
    (λ z. unempty frame (bad_record bs) w (eqb-true (tail_at bs (bad_record bs)) 0 z))
    (λ z. unended frame (bad_record bs) w (eqb-false (tail_at bs (bad_record bs)) 0 z)))
    (λ f5.
    let right = all_right bs (equal (bad_record bs) 0 f5) in
    cond_both (not (eqb (bad_link bs) 0)) 7 0 (Judged bs)
    (λ t. unlinked frame right (λ l. unequal (bad_link bs) 0 t (linked_none bs l)))
    (λ f6. admitted frame right (linked bs (equal (bad_link bs) 0 f6))))))))

pub judged_as : (bs : List ℕ) (k : ℕ) → k ≡ refusal bs → Judged bs k
judged_as bs k is = subst (Judged bs) (sym is) (judged bs)

-- ---- and on no other
frame_past : (bs : List ℕ) (n z : ℕ) → Frame bs → n ≡ z → cond (ltb (length bs) 4) 1 (cond (not (eqb (byte_at bs 0) 0x53)) 2 (cond (out_of_range bs) 3 (cond (not (eqb (length bs) (sheet_length bs))) 4 n))) ≡ z
frame_past bs n z f e =
    pass _ 1 _ z (le-ltb (length bs) 4 f.long) (pass _ 2 _ z (agree (byte_at bs 0) 0x53 f.kind) (pass _ 3 _ z (range_in bs f.range) (pass _ 4 n z (agree (length bs) (sheet_length bs) f.size) e)))

range_out : (bs : List ℕ) → (InRange bs → ⊥) → out_of_range bs ≡ true
range_out bs h = ⊎_elim (λ t. t) (λ f. absurd (h (in_range bs f))) (cases_Bool (out_of_range bs))

wrong_some : (bs : List ℕ) (e : ℕ) → FirstWrong bs e → not (eqb (bad_record bs) 0) ≡ true
wrong_some bs e w = let is = wrong_first bs e w in let p = w.some in differ (bad_record bs) 0 (λ z. omega arith)

pub judged_only : (bs : List ℕ) (k : ℕ) → Judged bs k → refusal bs ≡ k
judged_only bs k (short l) = cond-true _ 1 _ (lt-ltb (length bs) 4 l)
judged_only bs k (other l h) = pass _ 1 _ 2 (le-ltb (length bs) 4 l) (cond-true _ 2 _ (differ (byte_at bs 0) 0x53 h))
judged_only bs k (ranged l h r) = pass _ 1 _ 3 (le-ltb (length bs) 4 l) (pass _ 2 _ 3 (agree (byte_at bs 0) 0x53 h) (cond-true _ 3 _ (range_out bs r)))
judged_only bs k (inexact l h r s) =
    pass _ 1 _ 4 (le-ltb (length bs) 4 l) (pass _ 2 _ 4 (agree (byte_at bs 0) 0x53 h) (pass _ 3 _ 4 (range_in bs r) (cond-true _ 4 _ (differ (length bs) (sheet_length bs) s))))
judged_only bs k (unempty f e w z) =
    frame_past bs _ 5 f (cond-true _ _ _ (wrong_some bs e w) ∙ cond-true _ 5 6 (eq-eqb (tail_at bs (bad_record bs)) 0 (ap (tail_at bs) (wrong_first bs e w) ∙ z)))
judged_only bs k (unended f e w z) =
    frame_past bs _ 6 f (cond-true _ _ _ (wrong_some bs e w) ∙ cond-false _ 5 6 (ne_eqb (tail_at bs (bad_record bs)) 0 (λ y. z (sym (ap (tail_at bs) (wrong_first bs e w)) ∙ y))))
judged_only bs k (unlinked f r l) =
    frame_past bs _ 7 f (pass _ _ _ 7 (agree (bad_record bs) 0 (none_wrong bs r)) (cond-true _ 7 0 (differ (bad_link bs) 0 (λ z. l (linked bs z)))))
judged_only bs k (admitted f r l) =
    frame_past bs _ 0 f (pass _ _ _ 0 (agree (bad_record bs) 0 (none_wrong bs r)) (cond-false _ 7 0 (agree (bad_link bs) 0 (linked_none bs l))))
