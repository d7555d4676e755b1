-- What bytes that are accepted as a sheet have: the frame, right records and right links; their map is lawful.
use Rattle.std.specs.Prelude.{◌≡◌, ℕ, ◌+◌, ◌^◌, ◌<◌, ◌≤◌, Bool, true, false, cond, not, ◌&&◌, ◌||◌, List, length, Some, None, ◌==◌, nat_le, nat_lt, refl}
use Rattle.std.proofs.Common.{sym, ap, ◌∙◌, arith}
use Rattle.std.proofs.lemmas.Bool.{leb-true, ltb-false, eqb-false, not-true, lt-leb, and_parts, and_left, and_right, or_parts, cond-false}
use Rattle.maps.specs.Graph.{Placed, LawfulMap}
use Rattle.formats.specs.Bytes.{byte_at, four_at, Bytes}
use Rattle.formats.proofs.Scans.{lowest_in_none}
use Rattle.formats.proofs.Verdicts.{past, equal, placed_if}
use Rattle.sheet.specs.Layout.{junction_count, slot_count, sheet_length, slot_record, tail_at, head_at, length_at, filled, street_at, sheet_graph}
use Rattle.sheet.specs.Refusal.{blank, wrong_record, bad_record, bad_link, out_of_range, refusal, Framed, Sound}

five_or_six : (b : Bool) → 0 < cond b 5 6
five_or_six true = omega arith
five_or_six false = omega arith

-- what a refusal of 0 says
pub record Passed (bs : List ℕ) : Type 0 where
  pub frame : Framed bs
  pub records : bad_record bs ≡ 0
  pub links : bad_link bs ≡ 0

pub in_range : (bs : List ℕ) → out_of_range bs ≡ false → (0 < junction_count bs) × (junction_count bs ≤ 128) × (slot_count bs ≤ 512)
in_range bs h =
    let r = or_parts (junction_count bs == 0 || nat_lt 128 (junction_count bs)) (nat_lt 512 (slot_count bs)) h in
    let s = or_parts (junction_count bs == 0) (nat_lt 128 (junction_count bs)) r.0 in
    let some = eqb-false (junction_count bs) 0 s.0 in
    (omega arith, ltb-false 128 (junction_count bs) s.1, ltb-false 512 (slot_count bs) r.1)

pub passed : (bs : List ℕ) → refusal bs ≡ 0 → Passed bs
passed bs h =
    let a = past (nat_lt (length bs) 4) 1 _ (omega arith) h in
    let b = past (not (byte_at bs 0 == 0x53)) 2 _ (omega arith) a.1 in
    let c = past (out_of_range bs) 3 _ (omega arith) b.1 in
    let d = past (not (length bs == sheet_length bs)) 4 _ (omega arith) c.1 in
    let e = past (not (bad_record bs == 0)) (cond (tail_at bs (bad_record bs) == 0) 5 6) _ (five_or_six (tail_at bs (bad_record bs) == 0)) d.1 in
    let f = past (not (bad_link bs == 0)) 7 0 (omega arith) e.1 in
    let r = in_range bs c.0 in
    record {
      frame = (ltb-false (length bs) 4 a.0, r.0, r.1, r.2, equal (length bs) (sheet_length bs) d.0);
      records = equal (bad_record bs) 0 e.0;
      links = equal (bad_link bs) 0 f.0;
    }

filled_parts : (bs : List ℕ) (e : ℕ) → filled bs e ≡ true → (0 < e) × (e ≤ slot_count bs) × ((tail_at bs e == 0) ≡ false)
filled_parts bs e h =
    let p = and_parts (nat_le 1 e && nat_le e (slot_count bs)) (not (tail_at bs e == 0)) h in
    let q = and_parts (nat_le 1 e) (nat_le e (slot_count bs)) p.0 in
    (leb-true 1 e q.0, leb-true e (slot_count bs) q.1, not-true _ p.1)

four_below : (bs : List ℕ) → Bytes bs → (i : ℕ) → four_at bs i < 2 ^ 32
four_below bs b i = let w = b i in let x = b (i + 1) in let y = b (i + 2) in let z = b (i + 3) in omega arith

-- a record that is not at fault and has a tail has both its ends on the map
pub ends_within : (bs : List ℕ) (e : ℕ) → (tail_at bs e == 0) ≡ false → wrong_record bs e ≡ false → (0 < tail_at bs e) × (tail_at bs e ≤ junction_count bs) × (0 < head_at bs e) × (head_at bs e ≤ junction_count bs)
unfolding wrong_record
ends_within bs e t h =
    let n = junction_count bs in
    let far = nat_lt n (tail_at bs e) || head_at bs e == 0 || nat_lt n (head_at bs e) in
    let w : far ≡ false = sym (cond-false (tail_at bs e == 0) (not (blank bs (slot_record bs e) 10)) far t) ∙ h in
    let p = or_parts (nat_lt n (tail_at bs e) || head_at bs e == 0) (nat_lt n (head_at bs e)) w in
    let q = or_parts (nat_lt n (tail_at bs e)) (head_at bs e == 0) p.0 in
    let x = eqb-false (tail_at bs e) 0 t in
    let y = eqb-false (head_at bs e) 0 q.1 in
    (omega arith, ltb-false n (tail_at bs e) q.0, omega arith, ltb-false n (head_at bs e) p.1)

street_placed : (bs : List ℕ) → Sound bs → (e : ℕ) → filled bs e ≡ true → Placed (junction_count bs) (Some (tail_at bs e, head_at bs e, length_at bs e))
street_placed bs s e h =
    let p = filled_parts bs e h in
    let w = ends_within bs e p.2 (lowest_in_none (wrong_record bs) 0 (slot_count bs) (omega arith) (passed bs s.0).records e p.0 p.1) in
    (w.0, w.1, w.2, w.3, four_below bs s.1 (slot_record bs e + 2))

-- no street above the slot count
pub street_none : (bs : List ℕ) (e : ℕ) → slot_count bs < e → street_at bs e ≡ None
street_none bs e l =
    let out : filled bs e ≡ false = and_left _ (not (tail_at bs e == 0)) (and_right (nat_le 1 e) _ (lt-leb e (slot_count bs) l)) in
    ap (λ b. cond b (Some (tail_at bs e, head_at bs e, length_at bs e)) None) out

pub sheet_lawful : (bs : List ℕ) → Sound bs → LawfulMap (sheet_graph bs)
sheet_lawful bs s =
    let f = (passed bs s.0).frame in
    record {
      some_junction = f.1;
      few_junctions = f.2;
      few_slots = f.3;
      no_zero = refl;
      no_more = street_none bs;
      placed = λ e. placed_if (junction_count bs) (tail_at bs e, head_at bs e, length_at bs e) (filled bs e) (street_placed bs s e);
    }
