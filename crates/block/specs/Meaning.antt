-- When the block layout admits bytes, what each refusal number says of them, and which map they say: by rows and columns.
use Rattle.std.specs.Prelude.{◌≡◌, ℕ, ◌+◌, ◌*◌, ◌/◌, ◌<◌, ◌≤◌, true, false, List, length, Some, None, ◌≢◌}
use Rattle.maps.specs.Graph.{Graph}
use Rattle.formats.specs.Bytes.{byte_at}
use Rattle.block.specs.declared.cells.Side.{Side}
use Rattle.block.specs.declared.cells.Side.TheVariants.{North, East, South, West}
use Rattle.block.specs.Layout.{width, height, cell_count, cell_at, slot_of, opened}
use Rattle.block.specs.Refusal.{refusal}

-- the junction in row r and column c, counted from 0 at the top left
abbrev pub junction_at : List ℕ → ℕ → ℕ → ℕ
junction_at bs r c = r * width bs + c + 1

-- at the side of row r and column c lies row r2 and column c2
abbrev pub Beside : Side → ℕ → ℕ → ℕ → ℕ → Type 0
Beside North r c r2 c2 = (r ≡ r2 + 1) × (c2 ≡ c)
Beside East r c r2 c2 = (r2 ≡ r) × (c2 ≡ c + 1)
Beside South r c r2 c2 = (r2 ≡ r + 1) × (c2 ≡ c)
Beside West r c r2 c2 = (r2 ≡ r) × (c ≡ c2 + 1)

-- width and height are not 0, and there are at most 128 cells
abbrev pub InRange : List ℕ → Type 0
InRange bs = (0 < width bs) × (0 < height bs) × (cell_count bs ≤ 128)

-- each open side leads to a cell of the block
abbrev pub Walled : List ℕ → Type 0
Walled bs = (r c : ℕ) (s : Side) → r < height bs → c < width bs → opened bs (junction_at bs r c) s ≡ true
    → (r2 : ℕ) × (c2 : ℕ) × Beside s r c r2 c2 × (r2 < height bs) × (c2 < width bs)

-- the bytes have a block's head, and just the length that it says
pub record Frame (bs : List ℕ) : Type 0 where
  pub long : 3 ≤ length bs
  pub kind : byte_at bs 0 ≡ 0x47
  pub range : InRange bs
  pub size : length bs ≡ 3 + cell_count bs

-- the bytes are refused with a number, 0 if they are accepted
pub data Judged (bs : List ℕ) : ℕ → Type 0 where
  short : length bs < 3 → Judged bs 1
  other : 3 ≤ length bs → (byte_at bs 0 ≢ 0x47) → Judged bs 2
  ranged : 3 ≤ length bs → byte_at bs 0 ≡ 0x47 → (InRange bs → ⊥) → Judged bs 3
  inexact : 3 ≤ length bs → byte_at bs 0 ≡ 0x47 → InRange bs → (length bs ≢ 3 + cell_count bs) → Judged bs 4
  unwalled : Frame bs → (Walled bs → ⊥) → Judged bs 8
  admitted : Frame bs → Walled bs → Judged bs 0

-- the computed number is returned on its condition, and on no other
pub record RefusalsMean : Type 0 where
  pub judged : (bs : List ℕ) → Judged bs (refusal bs)
  pub only : (bs : List ℕ) (k : ℕ) → Judged bs k → refusal bs ≡ k

-- g is the map that the bytes say
pub record Says (bs : List ℕ) (g : Graph) : Type 0 where
  pub junctions : g.junctions ≡ byte_at bs 1 * byte_at bs 2
  pub slots : g.slots ≡ 4 * (byte_at bs 1 * byte_at bs 2)
  -- the slot of a closed side is empty
  pub empty : (r c : ℕ) (s : Side) → r < height bs → c < width bs → opened bs (junction_at bs r c) s ≡ false → g.street (slot_of (junction_at bs r c) s) ≡ None
  -- that of an open side leads to the cell there
  pub street : (r c r2 c2 : ℕ) (s : Side) → r < height bs → c < width bs → opened bs (junction_at bs r c) s ≡ true → Beside s r c r2 c2
      → g.street (slot_of (junction_at bs r c) s) ≡ Some (junction_at bs r c, junction_at bs r2 c2, 1 + cell_at bs (junction_at bs r2 c2) / 16)
  -- there is no other slot
  pub zero : g.street 0 ≡ None
  pub beyond : (e : ℕ) → 4 * (byte_at bs 1 * byte_at bs 2) < e → g.street e ≡ None
