-- What bytes that are accepted as a block have: the frame, and no open side at the edge; their map is lawful.
use Rattle.std.specs.Prelude.{◌≡◌, ℕ, ◌+◌, ◌-◌, ◌*◌, ◌<◌, ◌≤◌, true, false, cond, not, ◌&&◌, ◌||◌, List, length, Some, None, ◌==◌, nat_le, nat_lt, refl}
use Rattle.std.proofs.Common.{ap, ⊎_elim, mul_comm, add-mul, div-le_self, mul-pos, arith}
use Rattle.std.proofs.lemmas.Nat.{div-add-mod', mul-le, mul-add-lt, div_below, mod_below}
use Rattle.std.proofs.lemmas.Bool.{leb-true, ltb-true, ltb-false, eqb-false, not-false, lt-leb, and_parts, and_cases, and_left, and_right, or_parts, both_ways}
use Rattle.maps.specs.Graph.{Placed, LawfulMap}
use Rattle.formats.specs.Bytes.{byte_at}
use Rattle.formats.proofs.Scans.{lowest_in_none}
use Rattle.formats.proofs.Verdicts.{past, equal, placed_if}
use Rattle.block.specs.declared.cells.Side.{Side}
use Rattle.block.specs.declared.cells.Side.TheVariants.{North, East, South, West}
use Rattle.block.specs.Layout.{width, height, cell_count, cell_at, row_of, column_of, cell_of, side_of, opened, inside, neighbour, street_from, filled, street_at, block_graph}
use Rattle.block.specs.Refusal.{out_of_range, leads_out, bad_side, refusal, Sound}
use Rattle.block.specs.Meaning.{InRange, Frame}

-- what a refusal of 0 says
pub record Passed (bs : List ℕ) : Type 0 where
  pub frame : Frame bs
  pub sides : bad_side bs ≡ 0

pub in_range : (bs : List ℕ) → out_of_range bs ≡ false → InRange bs
in_range bs h =
    let r = or_parts (width bs == 0 || height bs == 0) (nat_lt 128 (cell_count bs)) h in
    let s = or_parts (width bs == 0) (height bs == 0) r.0 in
    let wide = eqb-false (width bs) 0 s.0 in
    let high = eqb-false (height bs) 0 s.1 in
    (omega arith, omega arith, ltb-false 128 (cell_count bs) r.1)

pub passed : (bs : List ℕ) → refusal bs ≡ 0 → Passed bs
passed bs h =
    let a = past (nat_lt (length bs) 3) 1 _ (omega arith) h in
    let b = past (not (byte_at bs 0 == 0x47)) 2 _ (omega arith) a.1 in
    let c = past (out_of_range bs) 3 _ (omega arith) b.1 in
    let d = past (not (length bs == 3 + cell_count bs)) 4 _ (omega arith) c.1 in
    let e = past (not (bad_side bs == 0)) 8 0 (omega arith) d.1 in
    record {
      frame = record { long = ltb-false (length bs) 3 a.0; kind = equal (byte_at bs 0) 0x47 b.0; range = in_range bs c.0; size = equal (length bs) (3 + cell_count bs) d.0 };
      sides = equal (bad_side bs) 0 e.0;
    }

-- a filled slot is one of the block's, and its side is open
pub filled_parts : (bs : List ℕ) (e : ℕ) → filled bs e ≡ true → (0 < e) × (e ≤ 4 * cell_count bs) × (opened bs (cell_of e) (side_of e) ≡ true)
filled_parts bs e h =
    let p = and_parts (nat_le 1 e && nat_le e (4 * cell_count bs)) (opened bs (cell_of e) (side_of e)) h in
    let q = and_parts (nat_le 1 e) (nat_le e (4 * cell_count bs)) p.0 in
    (leb-true 1 e q.0, leb-true e (4 * cell_count bs) q.1, p.1)

-- its side does not lead out
pub leads_in : (bs : List ℕ) → bad_side bs ≡ 0 → (e : ℕ) → filled bs e ≡ true → inside bs (cell_of e) (side_of e) ≡ true
unfolding leads_out
leads_in bs z e h =
    let p = filled_parts bs e h in
    let no-out = lowest_in_none (leads_out bs) 0 (4 * cell_count bs) (omega arith) z e p.0 p.1 in
    ⊎_elim (λ f. absurd (both_ways _ f p.2)) (λ f. not-false _ f) (and_cases (opened bs (cell_of e) (side_of e)) (not (inside bs (cell_of e) (side_of e))) no-out)

module _ (bs : List ℕ) (wide : 0 < width bs) (j : ℕ) (lo : 0 < j) (hi : j ≤ cell_count bs) where
  -- cell j stands in its row and column, which are the block's
  pub place_is : row_of bs j * width bs + column_of bs j ≡ j - 1
  place_is = div-add-mod' (j - 1) (width bs)

  pub row_below : row_of bs j < height bs
  row_below = let turn = mul_comm (width bs) (height bs) in div_below (j - 1) (width bs) (height bs) wide (omega arith)

  pub column_below : column_of bs j < width bs
  column_below = mod_below (j - 1) (width bs) wide

-- a neighbour in the block is one of its cells
pub neighbour_within : (bs : List ℕ) → 0 < width bs → (j : ℕ) → 0 < j → j ≤ cell_count bs → (s : Side) → inside bs j s ≡ true → (0 < neighbour bs j s) × (neighbour bs j s ≤ cell_count bs)
neighbour_within bs wide j lo hi North t =
    let row = ltb-true 0 (row_of bs j) t in
    let is = place_is bs wide j lo hi in
    let more = mul-le 1 (width bs) (row_of bs j) (width bs) row (omega arith) in
    (omega arith, omega arith)
neighbour_within bs wide j lo hi East t =
    let is = place_is bs wide j lo hi in
    let below = mul-add-lt (row_of bs j) (width bs) (column_of bs j + 1) (height bs) (row_below bs wide j lo hi) (ltb-true (column_of bs j + 1) (width bs) t) in
    (omega arith, omega arith)
neighbour_within bs wide j lo hi South t =
    let is = place_is bs wide j lo hi in
    let below = mul-add-lt (row_of bs j + 1) (width bs) (column_of bs j) (height bs) (ltb-true (row_of bs j + 1) (height bs) t) (column_below bs wide j lo hi) in
    let split = add-mul (row_of bs j) 1 (width bs) in
    (omega arith, omega arith)
neighbour_within bs wide j lo hi West t =
    let column = ltb-true 0 (column_of bs j) t in
    let is = place_is bs wide j lo hi in
    (omega arith, omega arith)

pub street_placed : (bs : List ℕ) → Sound bs → (e : ℕ) → filled bs e ≡ true → Placed (cell_count bs) (Some (street_from bs (cell_of e) (side_of e)))
street_placed bs s e h =
    let f = passed bs s.0 in
    let p = filled_parts bs e h in
    let lo : 0 < cell_of e = omega arith in
    let hi : cell_of e ≤ cell_count bs = omega (arith, p.0, p.1) in
    let n = neighbour_within bs f.frame.range.0 (cell_of e) lo hi (side_of e) (leads_in bs f.sides e h) in
    let byte = s.1 (neighbour bs (cell_of e) (side_of e) + 2) in
    (lo, hi, n.0, n.1, omega (arith, div-le_self (cell_at bs (neighbour bs (cell_of e) (side_of e))) 16))

-- no street above the slot count
pub street_none : (bs : List ℕ) (e : ℕ) → 4 * cell_count bs < e → street_at bs e ≡ None
street_none bs e l =
    let out : filled bs e ≡ false = and_left _ (opened bs (cell_of e) (side_of e)) (and_right (nat_le 1 e) _ (lt-leb e (4 * cell_count bs) l)) in
    ap (λ b. cond b (Some (street_from bs (cell_of e) (side_of e))) None) out

pub block_lawful : (bs : List ℕ) → Sound bs → LawfulMap (block_graph bs)
block_lawful bs s =
    let f = (passed bs s.0).frame in
    record {
      some_junction = mul-pos f.range.0 f.range.1;
      few_junctions = f.range.2;
      few_slots = omega arith;
      no_zero = refl;
      no_more = street_none bs;
      placed = λ e. placed_if (cell_count bs) (street_from bs (cell_of e) (side_of e)) (filled bs e) (street_placed bs s e);
    }
