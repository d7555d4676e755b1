-- Cells by row and column: the slot of a side, the neighbour there, and the map that the bytes say.
use Rattle.std.proofs.Common.{◌≡◌, ℕ, ◌+◌, ◌-◌, ◌*◌, ◌/◌, ◌%◌, ◌<◌, ◌≤◌, true, cond, ◌&&◌, leb, List, Some, None, refl, ap, ◌∙◌, add-mul, arith}
use Rattle.std.proofs.lemmas.Nat.{mul-add-lt, div-mul-add, mod-mul-add}
use Rattle.std.proofs.lemmas.Bool.{le-leb, and_from}
use Rattle.block.specs.declared.cells.Side.{Side}
use Rattle.block.specs.declared.cells.Side.TheVariants.{North, East, South, West}
use Rattle.block.specs.Layout.{width, height, cell_count, cell_at, row_of, column_of, order_of, slot_of, cell_of, ordered, side_of, opened, neighbour, street_from, filled, block_graph}
use Rattle.block.specs.Refusal.{refusal}
use Rattle.block.specs.Laws.{street_none}
use Rattle.block.specs.Meaning.{junction_at, Beside, Says}

-- ---- slots
pub cell_of_slot : (j : ℕ) (s : Side) → 0 < j → cell_of (slot_of j s) ≡ j
cell_of_slot j North lo = omega arith
cell_of_slot j East lo = omega arith
cell_of_slot j South lo = omega arith
cell_of_slot j West lo = omega arith

order_of_slot : (j : ℕ) (s : Side) → (slot_of j s - 1) % 4 ≡ order_of s
order_of_slot j North = omega arith
order_of_slot j East = omega arith
order_of_slot j South = omega arith
order_of_slot j West = omega arith

ordered_order : (s : Side) → ordered (order_of s) ≡ s
ordered_order North = refl
ordered_order East = refl
ordered_order South = refl
ordered_order West = refl

pub side_of_slot : (j : ℕ) (s : Side) → side_of (slot_of j s) ≡ s
side_of_slot j s = ap ordered (order_of_slot j s) ∙ ordered_order s

pub slot_within : (j n : ℕ) (s : Side) → 0 < j → j ≤ n → (1 ≤ slot_of j s) × (slot_of j s ≤ 4 * n)
slot_within j n North lo hi = (omega arith, omega arith)
slot_within j n East lo hi = (omega arith, omega arith)
slot_within j n South lo hi = (omega arith, omega arith)
slot_within j n West lo hi = (omega arith, omega arith)

module _ (bs : List ℕ) (r c : ℕ) (high : r < height bs) (wide : c < width bs) where
  pub junction_within : (0 < junction_at bs r c) × (junction_at bs r c ≤ cell_count bs)
  junction_within = (omega arith, omega (arith, mul-add-lt r (width bs) c (height bs) high wide))

  pub row_of_lem : row_of bs (junction_at bs r c) ≡ r
  row_of_lem =
      let p = r * width bs + c in
      let is : junction_at bs r c - 1 ≡ p = omega arith in
      ap (λ x. x / width bs) is ∙ div-mul-add r (width bs) c wide

  pub column_of_lem : column_of bs (junction_at bs r c) ≡ c
  column_of_lem =
      let p = r * width bs + c in
      let is : junction_at bs r c - 1 ≡ p = omega arith in
      ap (λ x. x % width bs) is ∙ mod-mul-add r (width bs) c wide

  -- the slot of a side holds a street exactly if the side is open
  pub filled_slot : (s : Side) → filled bs (slot_of (junction_at bs r c) s) ≡ opened bs (junction_at bs r c) s
  filled_slot s =
      let j = junction_at bs r c in
      let w = slot_within j (cell_count bs) s junction_within.0 junction_within.1 in
      let front : (leb 1 (slot_of j s) && leb (slot_of j s) (4 * cell_count bs)) ≡ true = and_from _ _ (le-leb 1 (slot_of j s) w.0) (le-leb (slot_of j s) (4 * cell_count bs) w.1) in
      ap (λ b. b && opened bs (cell_of (slot_of j s)) (side_of (slot_of j s))) front
      ∙ ap (λ i. opened bs i (side_of (slot_of j s))) (cell_of_slot j s junction_within.0)
      ∙ ap (opened bs j) (side_of_slot j s)

-- the neighbour at a side
pub neighbour_at : (bs : List ℕ) (r c r2 c2 : ℕ) (s : Side) → Beside s r c r2 c2 → neighbour bs (junction_at bs r c) s ≡ junction_at bs r2 c2
neighbour_at bs r c r2 c2 North b =
    let split = add-mul r2 1 (width bs) in
    let row : r * width bs ≡ (r2 + 1) * width bs = ap (λ x. x * width bs) b.0 in
    let column = b.1 in
    omega arith
neighbour_at bs r c r2 c2 East b =
    let row : r2 * width bs ≡ r * width bs = ap (λ x. x * width bs) b.0 in
    let column = b.1 in
    omega arith
neighbour_at bs r c r2 c2 South b =
    let split = add-mul r 1 (width bs) in
    let row : r2 * width bs ≡ (r + 1) * width bs = ap (λ x. x * width bs) b.0 in
    let column = b.1 in
    omega arith
neighbour_at bs r c r2 c2 West b =
    let row : r2 * width bs ≡ r * width bs = ap (λ x. x * width bs) b.0 in
    let column = b.1 in
    omega arith

-- the map of the bytes is the one that they say
pub says : (bs : List ℕ) → refusal bs ≡ 0 → Says bs (block_graph bs)
says bs z = record {
  junctions = refl;
  slots = refl;
  empty = λ r c s high wide shut. ap (λ b. cond b (Some (street_from bs (cell_of (slot_of (junction_at bs r c) s)) (side_of (slot_of (junction_at bs r c) s)))) None) (filled_slot bs r c high wide s ∙ shut);
  street = λ r c r2 c2 s high wide open-side at.
      let j = junction_at bs r c in
      ap (λ b. cond b (Some (street_from bs (cell_of (slot_of j s)) (side_of (slot_of j s)))) None) (filled_slot bs r c high wide s ∙ open-side)
      ∙ ap (λ i. Some (street_from bs i (side_of (slot_of j s)))) (cell_of_slot j s (junction_within bs r c high wide).0)
      ∙ ap (λ d. Some (street_from bs j d)) (side_of_slot j s)
      ∙ ap (λ n. Some (j, n, 1 + cell_at bs n / 16)) (neighbour_at bs r c r2 c2 s at);
  zero = refl;
  beyond = street_none bs;
}
