-- The sheet layout: where each field of a sheet stands, and the map that the bytes say.
-- Hex 53; n, one byte; m, two bytes; n junction records of four bytes; m slot records of ten bytes; nothing more.
-- A junction record is its first leaving and first entering slot, two bytes each.
-- A slot record is tail and head, one byte each, length, four bytes, next leaving and next entering slot, two bytes each.
use Rattle.std.specs.Prelude.{ℕ, ◌+◌, ◌-◌, ◌*◌, ◌<◌, ◌≤◌, Bool, cond, not, ◌&&◌, List, Some, None, Option, ◌==◌, nat_le}
use Rattle.maps.specs.Graph.{Street, Graph}
use Rattle.formats.specs.Bytes.{byte_at, two_at, four_at}

-- n and m
abbrev pub junction_count : List ℕ → ℕ
junction_count bs = byte_at bs 1

abbrev pub slot_count : List ℕ → ℕ
slot_count bs = two_at bs 2

-- the length that a sheet with these counts has
abbrev pub sheet_length : List ℕ → ℕ
sheet_length bs = 4 + 4 * junction_count bs + 10 * slot_count bs

-- where the record of junction v begins, and that of slot e
abbrev pub junction_record : ℕ → ℕ
junction_record v = 4 + 4 * (v - 1)

abbrev pub slot_record : List ℕ → ℕ → ℕ
slot_record bs e = 4 + 4 * junction_count bs + 10 * (e - 1)

-- there is a slot record e
abbrev pub HasRecord : List ℕ → ℕ → Type 0
HasRecord bs e = (0 < e) × (e ≤ slot_count bs)

-- the fields of slot record e that say its street
abbrev pub tail_at : List ℕ → ℕ → ℕ
tail_at bs e = byte_at bs (slot_record bs e)

abbrev pub head_at : List ℕ → ℕ → ℕ
head_at bs e = byte_at bs (slot_record bs e + 1)

abbrev pub length_at : List ℕ → ℕ → ℕ
length_at bs e = four_at bs (slot_record bs e + 2)

-- there is a slot record e, and its tail is not 0
abbrev pub filled : List ℕ → ℕ → Bool
filled bs e = nat_le 1 e && nat_le e (slot_count bs) && not (tail_at bs e == 0)

-- what slot e answers
abbrev pub street_at : List ℕ → ℕ → Option Street
street_at bs e = cond (filled bs e) (Some (tail_at bs e, head_at bs e, length_at bs e)) None

-- the map that the bytes say
abbrev pub sheet_graph : List ℕ → Graph
sheet_graph bs = record { junctions = junction_count bs; slots = slot_count bs; street = street_at bs }
