-- What closing or reopening a street leaves in the tables, and how the counts of the stored trees follow.
use Rattle.std.specs.Prelude.{◌≡◌, ℕ, ◌+◌, ◌-◌, ◌<◌, ◌≤◌, Bool, true, false, List, Option, slice_index_or, slice_set}
use Rattle.std.specs.List.{AllByRecursion}
use Rattle.maps.specs.Graph.{Graph}
use Rattle.walks.specs.Streets.{member}
use Rattle.asks.specs.Held.{bit}
use Rattle.asks.specs.Index.{Rising}
use Rattle.calls.specs.declared.Call.{Call}
use Rattle.calls.specs.declared.Call.TheVariants.{Close, Reopen}
use Rattle.calls.specs.declared.Fault.{Fault}
use Rattle.calls.specs.Moments.{close_fault, reopen_fault}
use Rattle.tables.specs.declared.TreeRecord.{TreeRecord}
use Rattle.tables.specs.declared.Tables.{Tables}
use Rattle.tables.specs.Tables.{no_record, count_in, holders_in}

-- a row of rising positions from 1 to 16
pub record Within (ps : List ℕ) : Type 0 where
  pub positions : AllByRecursion (λ i. (0 < i) × (i ≤ 16)) ps
  pub rising : Rising ps

-- ---- by whether a street is closed (true) or reopened (false)
-- the count can follow
abbrev pub HasRoom : Bool → ℕ → Type 0
HasRoom true n = n < 65535
HasRoom false n = 0 < n

-- the count that follows
abbrev pub next_count : Bool → ℕ → ℕ
next_count true n = n + 1
next_count false n = n - 1

-- the records of the positions of a list count one more, those of all others as many; the trees are the same
pub record Raised (ps : List ℕ) (old new : List TreeRecord) : Type 0 where
  pub trees : (i : ℕ) → (slice_index_or new i no_record).tree ≡ (slice_index_or old i no_record).tree
  pub counts : (i : ℕ) → 0 < i → count_in new i ≡ count_in old i + bit (member ps i)

-- they count one more, or one less
abbrev pub Recounted : Bool → List ℕ → List TreeRecord → List TreeRecord → Type 0
Recounted true ps old new = Raised ps old new
Recounted false ps old new = Raised ps new old

-- the fault of the call, and the call
abbrev pub mark_fault : Bool → Graph → (ℕ → Bool) → ℕ → Option Fault
mark_fault true = close_fault
mark_fault false = reopen_fault

abbrev pub mark_call : Bool → ℕ → Call
mark_call true = Close
mark_call false = Reopen

-- the mark of slot e is b, and the trees that hold the slot count one more (closed) or one less (reopened); all else is as before
pub record Remarked (e : ℕ) (b : Bool) (old new : Tables) : Type 0 where
  pub whole : new ≡ record {
    closed = slice_set old.closed (e - 1) b;
    transit = old.transit;
    tally = old.tally;
    trees = new.trees;
    legs = old.legs;
    holders = old.holders;
  }
  pub counts : Recounted b (holders_in old.holders e) old.trees new.trees
