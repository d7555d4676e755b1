-- When the sheet layout admits bytes, what each refusal number says of them, and which map they say.
use Rattle.std.specs.Prelude.{◌≡◌, ℕ, ◌+◌, ◌<◌, ◌≤◌, ◌⊎◌, List, length, Some, None, ◌≢◌}
use Rattle.maps.specs.Graph.{Graph, Lowest}
use Rattle.formats.specs.Bytes.{byte_at, two_at, four_at}
use Rattle.formats.specs.Scan.{optional}
use Rattle.sheet.specs.declared.records.Chain.{Chain}
use Rattle.sheet.specs.Layout.{junction_count, slot_count, sheet_length, slot_record, tail_at, head_at, sheet_graph, street_at}
use Rattle.sheet.specs.Chains.{first_link, next_link, end_of, OnChain}
use Rattle.sheet.specs.Refusal.{refusal}

-- n is 1 to 128 and m is 0 to 512
abbrev pub InRange : List ℕ → Type 0
InRange bs = (0 < junction_count bs) × (junction_count bs ≤ 128) × (slot_count bs ≤ 512)

-- slot record e is ten zero bytes
abbrev pub Empty : List ℕ → ℕ → Type 0
Empty bs e = (i : ℕ) → i < 10 → byte_at bs (slot_record bs e + i) ≡ 0

-- both ends of slot record e are 1 to n
abbrev pub Ended : List ℕ → ℕ → Type 0
Ended bs e = (0 < tail_at bs e) × (tail_at bs e ≤ junction_count bs) × (0 < head_at bs e) × (head_at bs e ≤ junction_count bs)

-- slot record e is as the layout has it
abbrev pub Right : List ℕ → ℕ → Type 0
Right bs e = Empty bs e ⊎ Ended bs e

-- every slot record is
abbrev pub AllRight : List ℕ → Type 0
AllRight bs = (e : ℕ) → 0 < e → e ≤ slot_count bs → Right bs e

-- e is the lowest slot record at fault
pub record FirstWrong (bs : List ℕ) (e : ℕ) : Type 0 where
  pub some : 0 < e
  pub within : e ≤ slot_count bs
  pub wrong : Right bs e → ⊥
  pub before : (k : ℕ) → 0 < k → k < e → Right bs k

-- each link holds what the map call of its name answers: the lowest street of the chain, or the next one, and 0 for none
pub record Linked (bs : List ℕ) : Type 0 where
  pub first : (c : Chain) (v : ℕ) → 0 < v → v ≤ junction_count bs → Lowest (OnChain (sheet_graph bs) c v) 0 (optional (first_link bs c v))
  pub next : (c : Chain) (e : ℕ) → 0 < e → e ≤ slot_count bs → Lowest (OnChain (sheet_graph bs) c (end_of c (street_at bs e))) e (optional (next_link bs c e))

-- the bytes have a sheet's head, and just the length that it says
pub record Frame (bs : List ℕ) : Type 0 where
  pub long : 4 ≤ length bs
  pub kind : byte_at bs 0 ≡ 0x53
  pub range : InRange bs
  pub size : length bs ≡ sheet_length bs

-- the bytes are refused with a number, 0 if they are accepted
pub data Judged (bs : List ℕ) : ℕ → Type 0 where
  short : length bs < 4 → Judged bs 1
  other : 4 ≤ length bs → (byte_at bs 0 ≢ 0x53) → Judged bs 2
  ranged : 4 ≤ length bs → byte_at bs 0 ≡ 0x53 → (InRange bs → ⊥) → Judged bs 3
  inexact : 4 ≤ length bs → byte_at bs 0 ≡ 0x53 → InRange bs → (length bs ≢ sheet_length bs) → Judged bs 4
  unempty : Frame bs → (e : ℕ) → FirstWrong bs e → tail_at bs e ≡ 0 → Judged bs 5
  unended : Frame bs → (e : ℕ) → FirstWrong bs e → (tail_at bs e ≢ 0) → Judged bs 6
  unlinked : Frame bs → AllRight bs → (Linked bs → ⊥) → Judged bs 7
  admitted : Frame bs → AllRight bs → Linked bs → Judged bs 0

-- the computed number is returned on its condition, and on no other
pub record RefusalsMean : Type 0 where
  pub judged : (bs : List ℕ) → Judged bs (refusal bs)
  pub only : (bs : List ℕ) (k : ℕ) → Judged bs k → refusal bs ≡ k

-- g is the map that the bytes say: n, m, and in each slot of 1 to m what its record holds
pub record Says (bs : List ℕ) (g : Graph) : Type 0 where
  pub junctions : g.junctions ≡ byte_at bs 1
  pub slots : g.slots ≡ two_at bs 2
  -- a record whose tail is 0 is an empty slot; any other holds its tail, its head and its length
  pub empty : (e : ℕ) → 0 < e → e ≤ two_at bs 2 → byte_at bs (slot_record bs e) ≡ 0 → g.street e ≡ None
  pub street : (e : ℕ) → 0 < e → e ≤ two_at bs 2 → (byte_at bs (slot_record bs e) ≢ 0)
      → g.street e ≡ Some (byte_at bs (slot_record bs e), byte_at bs (slot_record bs e + 1), four_at bs (slot_record bs e + 2))
  -- there is no other slot
  pub zero : g.street 0 ≡ None
  pub beyond : (e : ℕ) → two_at bs 2 < e → g.street e ≡ None
