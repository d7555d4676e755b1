-- The number of a refusal means what the layout says.
use Rattle.std.proofs.Common.{◌≡◌, ℕ, ◌+◌, ◌-◌, ◌*◌, ◌<◌, ◌≤◌, true, false, cond, not, ◌||◌, eqb, ltb, List, length, sym, refl, ap, ◌∙◌, ⊎_elim, arith}
use native.Mathlib.Decide.{ℕ_discrete}
use Rattle.std.proofs.lemmas.Bool.{lt-ltb, ltb-true, ltb-false, ne_eqb, le-ltb, or_from, cond-true, cond-false, cond_both, cases_Bool, both_ways, and_parts, not-true}
use Rattle.formats.specs.Bytes.{byte_at}
use Rattle.formats.proofs.Scans.{lowest_in_found}
use Rattle.formats.proofs.Verdicts.{pass, equal, unequal, agree, differ}
use Rattle.block.specs.declared.cells.Side.{Side}
use Rattle.block.specs.declared.cells.Side.TheVariants.{North, East, South, West}
use Rattle.block.specs.Layout.{width, height, cell_count, row_of, column_of, slot_of, cell_of, side_of, opened, inside}
use Rattle.block.specs.Refusal.{out_of_range, leads_out, bad_side, refusal}
use Rattle.block.specs.Laws.{in_range, leads_in, place_is, row_below, column_below}
use Rattle.block.specs.Meaning.{junction_at, Beside, InRange, Walled, Frame, Judged, short, other, ranged, inexact, unwalled, admitted}
use Rattle.block.proofs.Places.{cell_of_slot, side_of_slot, row_of_lem, column_of_lem, filled_slot, junction_within}

range_in : (bs : List ℕ) → InRange bs → out_of_range bs ≡ false
range_in bs h =
    or_from (eqb (width bs) 0 || eqb (height bs) 0) (ltb 128 (cell_count bs))
    (or_from (eqb (width bs) 0) (eqb (height bs) 0) (ne_eqb (width bs) 0 (λ z. let p = h.0 in omega arith)) (ne_eqb (height bs) 0 (λ z. let p = h.1 in omega arith)))
    (le-ltb 128 (cell_count bs) h.2)

range_out : (bs : List ℕ) → (InRange bs → ⊥) → out_of_range bs ≡ true
range_out bs h = ⊎_elim (λ t. t) (λ f. absurd (h (in_range bs f))) (cases_Bool (out_of_range bs))

-- ---- a side leads into the block exactly if a cell of the block lies there
leads_there : (bs : List ℕ) (r c : ℕ) → r < height bs → c < width bs → (s : Side) → inside bs (junction_at bs r c) s ≡ true
    → (r2 : ℕ) × (c2 : ℕ) × Beside s r c r2 c2 × (r2 < height bs) × (c2 < width bs)
leads_there bs r c high wide North t =
    let row = row_of_lem bs r c high wide in
    let some = ltb-true 0 (row_of bs (junction_at bs r c)) t in
    (r - 1, c, (omega arith, refl), omega arith, wide)
leads_there bs r c high wide East t =
    let column = column_of_lem bs r c high wide in
    let some = ltb-true (column_of bs (junction_at bs r c) + 1) (width bs) t in
    (r, c + 1, (refl, refl), high, omega arith)
leads_there bs r c high wide South t =
    let row = row_of_lem bs r c high wide in
    let some = ltb-true (row_of bs (junction_at bs r c) + 1) (height bs) t in
    (r + 1, c, (refl, refl), omega arith, wide)
leads_there bs r c high wide West t =
    let column = column_of_lem bs r c high wide in
    let some = ltb-true 0 (column_of bs (junction_at bs r c)) t in
    (r, c - 1, (refl, omega arith), high, omega arith)

there_leads : (bs : List ℕ) (r c : ℕ) → r < height bs → c < width bs → (s : Side) (r2 c2 : ℕ) → Beside s r c r2 c2 → r2 < height bs → c2 < width bs → inside bs (junction_at bs r c) s ≡ true
there_leads bs r c high wide North r2 c2 b hr hc = let row = row_of_lem bs r c high wide in let is = b.0 in lt-ltb 0 (row_of bs (junction_at bs r c)) (omega arith)
there_leads bs r c high wide East r2 c2 b hr hc = let column = column_of_lem bs r c high wide in let is = b.1 in lt-ltb (column_of bs (junction_at bs r c) + 1) (width bs) (omega arith)
there_leads bs r c high wide South r2 c2 b hr hc = let row = row_of_lem bs r c high wide in let is = b.0 in lt-ltb (row_of bs (junction_at bs r c) + 1) (height bs) (omega arith)
there_leads bs r c high wide West r2 c2 b hr hc = let column = column_of_lem bs r c high wide in let is = b.1 in lt-ltb 0 (column_of bs (junction_at bs r c)) (omega arith)

walled : (bs : List ℕ) → bad_side bs ≡ 0 → Walled bs
walled bs z r c s high wide o =
    let j = junction_at bs r c in
    let t = leads_in bs z (slot_of j s) (filled_slot bs r c high wide s ∙ o) in
    leads_there bs r c high wide s
    (sym (ap (inside bs j) (side_of_slot j s)) ∙ sym (ap (λ i. inside bs i (side_of (slot_of j s))) (cell_of_slot j s (junction_within bs r c high wide).0)) ∙ t)

-- where a side is found at fault, the cell of its slot has one that leads out
not_walled : (bs : List ℕ) → InRange bs → (bad_side bs ≡ 0 → ⊥) → Walled bs → ⊥
unfolding leads_out
not_walled bs range some w =
    let e = bad_side bs in
    let found = lowest_in_found (leads_out bs) 0 (4 * cell_count bs) (omega arith) (omega arith) in
    let p = and_parts (opened bs (cell_of e) (side_of e)) (not (inside bs (cell_of e) (side_of e))) found.1 in
    let j = cell_of e in
    let lo : 0 < j = omega arith in
    let hi : j ≤ cell_count bs = omega (arith, found.0) in
    let r = row_of bs j in
    let c = column_of bs j in
    let high = row_below bs range.0 j lo hi in
    let wide = column_below bs range.0 j lo hi in
    let at : junction_at bs r c ≡ j = let is = place_is bs range.0 j lo hi in omega arith in
    let there = w r c (side_of e) high wide (ap (λ i. opened bs i (side_of e)) at ∙ p.0) in
    let into = there_leads bs r c high wide (side_of e) there.0 there.1 there.2 there.3 there.4 in
    both_ways _ (not-true _ p.1) (sym (ap (λ i. inside bs i (side_of e)) at) ∙ into)

sides_in : (bs : List ℕ) → InRange bs → Walled bs → bad_side bs ≡ 0
sides_in bs range w = elim (ℕ_discrete (bad_side bs) 0) [ yes z ↦ z | no n ↦ absurd (not_walled bs range n w) ]

-- ---- each number is returned on its condition
pub judged : (bs : List ℕ) → Judged bs (refusal bs)
judged bs =
    cond_both (ltb (length bs) 3) 1 _ (Judged bs) (λ t. short (ltb-true (length bs) 3 t)) (λ f1.
    let long = ltb-false (length bs) 3 f1 in
    cond_both (not (eqb (byte_at bs 0) 0x47)) 2 _ (Judged bs) (λ t. other long (unequal (byte_at bs 0) 0x47 t)) (λ f2.
    let kind = equal (byte_at bs 0) 0x47 f2 in
    cond_both (out_of_range bs) 3 _ (Judged bs) (λ t. ranged long kind (λ r. both_ways _ (range_in bs r) t)) (λ f3.
    let range = in_range bs f3 in
    cond_both (not (eqb (length bs) (3 + cell_count bs))) 4 _ (Judged bs) (λ t. inexact long kind range (unequal (length bs) (3 + cell_count bs) t)) (λ f4.
    let frame : Frame bs = record { long = long; kind = kind; range = range; size = equal (length bs) (3 + cell_count bs) f4 } in
    cond_both (not (eqb (bad_side bs) 0)) 8 0 (Judged bs)
    (λ t. unwalled frame (not_walled bs range (unequal (bad_side bs) 0 t)))
    (λ f5. admitted frame (walled bs (equal (bad_side bs) 0 f5)))))))

-- ---- and on no other
frame_past : (bs : List ℕ) (n z : ℕ) → Frame bs → n ≡ z → cond (ltb (length bs) 3) 1 (cond (not (eqb (byte_at bs 0) 0x47)) 2 (cond (out_of_range bs) 3 (cond (not (eqb (length bs) (3 + cell_count bs))) 4 n))) ≡ z
frame_past bs n z f e =
    pass _ 1 _ z (le-ltb (length bs) 3 f.long) (pass _ 2 _ z (agree (byte_at bs 0) 0x47 f.kind) (pass _ 3 _ z (range_in bs f.range) (pass _ 4 n z (agree (length bs) (3 + cell_count bs) f.size) e)))

pub judged_only : (bs : List ℕ) (k : ℕ) → Judged bs k → refusal bs ≡ k
judged_only bs k (short l) = cond-true _ 1 _ (lt-ltb (length bs) 3 l)
judged_only bs k (other l h) = pass _ 1 _ 2 (le-ltb (length bs) 3 l) (cond-true _ 2 _ (differ (byte_at bs 0) 0x47 h))
judged_only bs k (ranged l h r) = pass _ 1 _ 3 (le-ltb (length bs) 3 l) (pass _ 2 _ 3 (agree (byte_at bs 0) 0x47 h) (cond-true _ 3 _ (range_out bs r)))
judged_only bs k (inexact l h r s) =
    pass _ 1 _ 4 (le-ltb (length bs) 3 l) (pass _ 2 _ 4 (agree (byte_at bs 0) 0x47 h) (pass _ 3 _ 4 (range_in bs r) (cond-true _ 4 _ (differ (length bs) (3 + cell_count bs) s))))
judged_only bs k (unwalled f n) = frame_past bs _ 8 f (cond-true _ 8 0 (differ (bad_side bs) 0 (λ z. n (walled bs z))))
judged_only bs k (admitted f w) = frame_past bs _ 0 f (cond-false _ 8 0 (agree (bad_side bs) 0 (sides_in bs f.range w)))
