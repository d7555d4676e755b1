-- The number with which bytes are refused as a block, 0 for none, as a function that computes. specs/Meaning says what each number means.
use Rattle.std.specs.Prelude.{◌≡◌, ℕ, ◌+◌, ◌*◌, Bool, cond, not, ◌&&◌, ◌||◌, List, length, ◌==◌, nat_lt}
use Rattle.formats.specs.Bytes.{byte_at, Bytes}
use Rattle.formats.specs.Scan.{lowest_in}
use Rattle.block.specs.Layout.{width, height, cell_count, cell_of, side_of, opened, inside}

abbrev pub out_of_range : List ℕ → Bool
out_of_range bs = width bs == 0 || height bs == 0 || nat_lt 128 (cell_count bs)

-- the side of slot e is open and leads out of the block
unfoldable pub leads_out : List ℕ → ℕ → Bool
leads_out bs e = opened bs (cell_of e) (side_of e) && not (inside bs (cell_of e) (side_of e))

-- the lowest slot whose side does, or 0
abbrev pub bad_side : List ℕ → ℕ
bad_side bs = lowest_in (leads_out bs) 0 (4 * cell_count bs)

-- the first number, in the order of the checks, whose condition holds
abbrev pub refusal : List ℕ → ℕ
refusal bs =
    cond (nat_lt (length bs) 3) 1
    (cond (not (byte_at bs 0 == 0x47)) 2
    (cond (out_of_range bs) 3
    (cond (not (length bs == 3 + cell_count bs)) 4
    (cond (not (bad_side bs == 0)) 8 0))))

-- bytes that are accepted as a block
abbrev pub Sound : List ℕ → Type 0
Sound bs = (refusal bs ≡ 0) × Bytes bs
