-- The block layout: a block of square cells, and the map that the bytes say.
-- Hex 47; width; height; then width × height cells, one byte each, row by row from the top. Junction j is the j-th cell.
-- Bits 1, 2, 4, 8 of a cell open its north, east, south and west side; each open side is a street to the neighbour there.
use Rattle.std.specs.Prelude.{ℕ, ◌+◌, ◌-◌, ◌*◌, ◌/◌, ◌%◌, Bool, cond, ◌&&◌, List, [], ◌∷◌, Some, None, Option, ◌==◌, nat_le, nat_lt}
use Rattle.maps.specs.Graph.{Street, Graph}
use Rattle.formats.specs.Bytes.{byte_at}
use Rattle.block.specs.declared.cells.Side.{Side}
use Rattle.block.specs.declared.cells.Side.TheVariants.{North, East, South, West}

abbrev pub width : List ℕ → ℕ
width bs = byte_at bs 1

abbrev pub height : List ℕ → ℕ
height bs = byte_at bs 2

-- how many cells there are
abbrev pub cell_count : List ℕ → ℕ
cell_count bs = width bs * height bs

-- the byte of cell j, counted from 1
abbrev pub cell_at : List ℕ → ℕ → ℕ
cell_at bs j = byte_at bs (j + 2)

-- the row and the column of cell j, counted from 0 at the top left
abbrev pub row_of : List ℕ → ℕ → ℕ
row_of bs j = (j - 1) / width bs

abbrev pub column_of : List ℕ → ℕ → ℕ
column_of bs j = (j - 1) % width bs

-- the bit of a side, and its place among the slots of a cell
abbrev pub bit_of : Side → ℕ
bit_of North = 1
bit_of East = 2
bit_of South = 4
bit_of West = 8

abbrev pub order_of : Side → ℕ
order_of North = 0
order_of East = 1
order_of South = 2
order_of West = 3

-- the slot of a side of cell j
abbrev pub slot_of : ℕ → Side → ℕ
slot_of j s = 4 * (j - 1) + order_of s + 1

-- the cell and the side of a slot number from 1
abbrev pub cell_of : ℕ → ℕ
cell_of e = (e - 1) / 4 + 1

abbrev pub ordered : ℕ → Side
ordered d = cond (d == 0) North (cond (d == 1) East (cond (d == 2) South West))

abbrev pub side_of : ℕ → Side
side_of e = ordered ((e - 1) % 4)

-- the side of cell j is open
abbrev pub opened : List ℕ → ℕ → Side → Bool
opened bs j s = cell_at bs j / bit_of s % 2 == 1

-- the neighbour of cell j at a side lies in the block
abbrev pub inside : List ℕ → ℕ → Side → Bool
inside bs j North = nat_lt 0 (row_of bs j)
inside bs j East = nat_lt (column_of bs j + 1) (width bs)
inside bs j South = nat_lt (row_of bs j + 1) (height bs)
inside bs j West = nat_lt 0 (column_of bs j)

-- that neighbour
abbrev pub neighbour : List ℕ → ℕ → Side → ℕ
neighbour bs j North = j - width bs
neighbour bs j East = j + 1
neighbour bs j South = j + width bs
neighbour bs j West = j - 1

-- the street through a side of cell j: its length is 1 and the head's cell divided by 16, the fraction dropped
abbrev pub street_from : List ℕ → ℕ → Side → Street
street_from bs j s = (j, neighbour bs j s, 1 + cell_at bs (neighbour bs j s) / 16)

-- slot e is one of the block's, and its side is open
abbrev pub filled : List ℕ → ℕ → Bool
filled bs e = nat_le 1 e && nat_le e (4 * cell_count bs) && opened bs (cell_of e) (side_of e)

-- what slot e answers
abbrev pub street_at : List ℕ → ℕ → Option Street
street_at bs e = cond (filled bs e) (Some (street_from bs (cell_of e) (side_of e))) None

-- the map that the bytes say
abbrev pub block_graph : List ℕ → Graph
block_graph bs = record { junctions = cell_count bs; slots = 4 * cell_count bs; street = street_at bs }

-- the bytes of the least block: one cell with no open side
abbrev pub least_bytes : List ℕ
least_bytes = 0x47 ∷ 1 ∷ 1 ∷ 0 ∷ []
