-- The number with which bytes are refused as a sheet, 0 for none, as a function that computes. specs/Meaning says what each number means.
use Rattle.std.specs.Prelude.{◌≡◌, ℕ, zero, suc, ◌+◌, ◌-◌, ◌<◌, ◌≤◌, Bool, true, cond, not, ◌&&◌, ◌||◌, List, length, ◌==◌, nat_le, nat_lt}
use Rattle.formats.specs.Bytes.{byte_at, Bytes}
use Rattle.formats.specs.Scan.{lowest_in}
use Rattle.sheet.specs.declared.records.Chain.{Chain}
use Rattle.sheet.specs.declared.records.Chain.TheVariants.{Leaving, Entering}
use Rattle.sheet.specs.Layout.{junction_count, slot_count, sheet_length, slot_record, tail_at, head_at, sheet_graph, street_at}
use Rattle.sheet.specs.Chains.{first_link, next_link, end_of, lowest_on}

-- the k bytes from i on are 0
abbrev pub blank : List ℕ → ℕ → ℕ → Bool
blank bs i zero = true
blank bs i (suc k) = blank bs i k && byte_at bs (i + k) == 0

-- slot record e is at fault: tail 0 and another byte not 0, or tail not 0 and an end not 1 to n
unfoldable pub wrong_record : List ℕ → ℕ → Bool
wrong_record bs e =
    cond (tail_at bs e == 0)
    (not (blank bs (slot_record bs e) 10))
    (nat_lt (junction_count bs) (tail_at bs e) || head_at bs e == 0 || nat_lt (junction_count bs) (head_at bs e))

-- the lowest slot record at fault, or 0
abbrev pub bad_record : List ℕ → ℕ
bad_record bs = lowest_in (wrong_record bs) 0 (slot_count bs)

-- the link of a chain in record r is not as defined; records are counted through, junctions as 1 to n and slots as n + 1 to n + m
unfoldable pub wrong_link : List ℕ → Chain → ℕ → Bool
wrong_link bs c r =
    cond (nat_le r (junction_count bs))
    (not (first_link bs c r == lowest_on (sheet_graph bs) c r 0))
    (not (next_link bs c (r - junction_count bs) == lowest_on (sheet_graph bs) c (end_of c (street_at bs (r - junction_count bs))) (r - junction_count bs)))

-- one of the two links of record r is wrong
abbrev pub wrong_links : List ℕ → ℕ → Bool
wrong_links bs r = wrong_link bs Leaving r || wrong_link bs Entering r

-- the lowest record with a wrong link, or 0
abbrev pub bad_link : List ℕ → ℕ
bad_link bs = lowest_in (wrong_links bs) 0 (junction_count bs + slot_count bs)

abbrev pub out_of_range : List ℕ → Bool
out_of_range bs = junction_count bs == 0 || nat_lt 128 (junction_count bs) || nat_lt 512 (slot_count bs)

-- the first number, in the order of the checks, whose condition holds
abbrev pub refusal : List ℕ → ℕ
refusal bs =
    cond (nat_lt (length bs) 4) 1
    (cond (not (byte_at bs 0 == 0x53)) 2
    (cond (out_of_range bs) 3
    (cond (not (length bs == sheet_length bs)) 4
    (cond (not (bad_record bs == 0)) (cond (tail_at bs (bad_record bs) == 0) 5 6)
    (cond (not (bad_link bs == 0)) 7 0)))))

-- bytes that pass the checks before the records
abbrev pub Framed : List ℕ → Type 0
Framed bs = (4 ≤ length bs) × (0 < junction_count bs) × (junction_count bs ≤ 128) × (slot_count bs ≤ 512) × (length bs ≡ sheet_length bs)

-- bytes that are accepted as a sheet
abbrev pub Sound : List ℕ → Type 0
Sound bs = (refusal bs ≡ 0) × Bytes bs
