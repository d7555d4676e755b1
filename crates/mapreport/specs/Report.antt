-- The text that says what a map file holds: a line with the format and the counts, and a line for each street by rising slots.
use Rattle.std.specs.Prelude.{ℕ, cond, List, [], ◌∷◌, ◌++◌, Some, None, codes, decimal, Option, ◌==◌, count_by, is_some}
use Rattle.std.specs.List.{flat_map, range_with_len}
use Rattle.maps.specs.Graph.{Street, Graph}
use Rattle.formats.specs.Bytes.{byte_at}
use Rattle.sheet.specs.Layout.{sheet_graph}
use Rattle.sheet.specs.Refusal as sheet
use Rattle.block.specs.Layout.{block_graph}
use Rattle.block.specs.Refusal as block

-- the byte that ends a line
abbrev pub line_end : List ℕ
line_end = 10 ∷ []

-- the line of slot e, nothing for an empty one: `slot E: TAIL to HEAD, length LENGTH`
abbrev pub street_line : ℕ → Option Street → List ℕ
street_line e None = []
street_line e (Some s) = codes "slot " ++ (decimal e ++ (codes ": " ++ (decimal s.0 ++ (codes " to " ++ (decimal s.1 ++ (codes ", length " ++ (decimal s.2 ++ line_end)))))))

-- the lines of the streets in slots 1 to k
abbrev pub street_lines : Graph → ℕ → List ℕ
street_lines g k = flat_map (λ e. street_line e (g.street e)) (range_with_len 1 k)

-- how many of slots 1 to k hold a street
abbrev pub street_count : Graph → ℕ → ℕ
street_count g k = count_by (λ e. is_some (g.street e)) (range_with_len 1 k)

-- the first line: `NAME: junctions N, slots M, streets K`
abbrev pub head_line : List ℕ → ℕ → ℕ → ℕ → List ℕ
head_line name n m k = name ++ (codes ": junctions " ++ (decimal n ++ (codes ", slots " ++ (decimal m ++ (codes ", streets " ++ (decimal k ++ line_end))))))

-- the text of a map
abbrev pub map_text : List ℕ → Graph → List ℕ
map_text name g = head_line name g.junctions g.slots (street_count g g.slots) ++ street_lines g g.slots

-- the text of a file that is refused with number k: `refused 0 K`
abbrev pub refusal_text : ℕ → List ℕ
refusal_text k = codes "refused 0 " ++ (decimal k ++ line_end)

-- the text of a file that is refused with number k, or with 0 holds the map g
abbrev pub file_text : List ℕ → Graph → ℕ → List ℕ
file_text name g k = cond (k == 0) (map_text name g) (refusal_text k)

-- the text of a map file: a first byte hex 47 means a block, any other or none a sheet
abbrev pub report_of : List ℕ → List ℕ
report_of bs =
    cond (byte_at bs 0 == 0x47)
    (file_text (codes "block") (block_graph bs) (block.refusal bs))
    (file_text (codes "sheet") (sheet_graph bs) (sheet.refusal bs))
