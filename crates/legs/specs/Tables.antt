-- What a table of legs and the best lengths over it mean: node 0 is the start, nodes 1 to 16 are list positions, node 31 is the goal.
use Rattle.std.specs.Prelude.{ℕ, ◌+◌, ◌*◌, Bool, cond, not, ◌&&◌, List, None, Option, ◌==◌, nat_le, slice_index_or}
use Rattle.walks.specs.Legs.{Legs, leg_between}
use Rattle.legs.specs.declared.Reached.{Reached}
use Rattle.legs.specs.declared.table.LegTable.{LegTable}

-- how many list positions a table is for
abbrev pub positions_of : LegTable → ℕ
positions_of t = t.count

-- i is one of k list positions, which are numbered from 1
abbrev pub is_position : ℕ → ℕ → Bool
is_position k i = nat_le 1 i && nat_le i k

-- i and j are two list positions
abbrev pub are_positions : ℕ → ℕ → ℕ → Bool
are_positions k i j = is_position k i && is_position k j && not (i == j)

-- the cell of the leg from node i to node j
abbrev pub cell_of : ℕ → ℕ → ℕ
cell_of i j = i * 17 + cond (j == 31) 0 j

-- the legs in the cells, between k list positions
abbrev pub legs_in : ℕ → List (Option ℕ) → Legs
legs_in k cells i j = cond (leg_between k i j) (slice_index_or cells (cell_of i j) None) None

-- the legs that a table holds: none into the start, out of the goal, from a node to itself, or at a position past its count
unfoldable pub leg_of : LegTable → Legs
leg_of t = legs_in t.count t.cells

-- no legs
abbrev pub no_legs : Legs
no_legs i j = None

-- the legs D, but from i to j the length o, present or absent, if b
abbrev pub with_leg : Bool → ℕ → ℕ → Option ℕ → Legs → Legs
with_leg b i j o D k l = cond (b && k == i && l == j) o (D k l)

-- the best length to a node over the legs, absent where no way leads to it
abbrev pub length_at : Reached → ℕ → Option ℕ
length_at r v = slice_index_or r.lengths v None

-- the same of a list position, absent for any other number
abbrev pub position_at : Reached → ℕ → Option ℕ
position_at r i = cond (is_position 16 i) (length_at r i) None
