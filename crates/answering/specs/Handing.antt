-- The legs of an ask as they are handed on: rows of affected trees, the ends, and the rows filled in round by round.
use Rattle.std.specs.Prelude.{◌≡◌, ℕ, ◌+◌, ◌-◌, ◌<◌, ◌≤◌, Bool, true, false, not, ◌&&◌, ◌||◌, List, [], ◌∷◌, length, is_some, ◌==◌, ◌≢◌, slice_index_or}
use Rattle.maps.specs.Graph.{Graph}
use Rattle.lengths.specs.Kinds.{Kind}
use Rattle.walks.specs.Runs.{Table, length_of}
use Rattle.walks.specs.Legs.{Legs}
use Rattle.asks.specs.Held.{bit}
use Rattle.asks.specs.Index.{node_at}
use Rattle.legs.specs.declared.Reached.{Reached}
use Rattle.legs.specs.declared.table.LegTable.{LegTable}
use Rattle.legs.specs.Tables.{leg_of, position_at}
use Rattle.trees.specs.Runs.{run_on}
use Rattle.tables.specs.declared.Tables.{Tables}
use Rattle.tables.specs.declared.TreeRecord.{TreeRecord}
use Rattle.tables.specs.Tables.{transit_of, closed_of, count_in}

-- the run over the open streets, from each junction, past no other transit node
abbrev pub run_anew : Kind → Graph → Tables → ℕ → Table
run_anew K G x = run_on K G (transit_of x) (closed_of x)

-- of the first p positions those whose tree holds a closed street have no leg to another position; all others have their legs as before
pub record RowsBlank (p : ℕ) (ns : List ℕ) (rs : List TreeRecord) (old new : Legs) : Type 0 where
  pub blank : (i j : ℕ) → 0 < i → i ≤ p → 0 < j → j ≤ length ns → (i ≢ j) → (count_in rs i ≢ 0) → is_some (new i j) ≡ false
  pub sound : (i j : ℕ) → 0 < i → count_in rs i ≡ 0 → new i j ≡ old i j
  pub later : (i j : ℕ) → p < i → new i j ≡ old i j

-- from the start to each of the first p positions the length in table A, and from each of these to the goal the length in table B; between positions as before
pub record StopsHanded (p : ℕ) (ns : List ℕ) (A B : Table) (old new : Legs) : Type 0 where
  pub access : (j : ℕ) → 0 < j → j ≤ p → new 0 j ≡ length_of (A (node_at ns j))
  pub egress : (i : ℕ) → 0 < i → i ≤ p → new i 31 ≡ length_of (B (node_at ns i))
  pub between : (i j : ℕ) → 0 < i → j < 31 → new i j ≡ old i j

-- the same of all positions, and from the start straight to the goal the length of t in table A
pub record EndsHanded (ns : List ℕ) (A B : Table) (t : ℕ) (old new : Legs) : Type 0 where
  pub stops : StopsHanded (length ns) ns A B old new
  pub direct : new 0 31 ≡ length_of (A t)

-- position i is reached, and its tree holds a closed street
abbrev pub is_counted : Reached → List TreeRecord → ℕ → Bool
is_counted r rs i = is_some (position_at r i) && not (count_in rs i == 0)

-- the positions of R have their legs to other positions by the run from their transit node; the rows of unaffected trees, the start's row and the legs to the goal are as before
pub record RowsFilled (ns : List ℕ) (rs : List TreeRecord) (run : ℕ → Table) (R : ℕ → Bool) (old new : Legs) : Type 0 where
  pub filled : (i j : ℕ) → 0 < i → i ≤ length ns → 0 < j → j ≤ length ns → (i ≢ j) → R i ≡ true → new i j ≡ length_of (run (node_at ns i) (node_at ns j))
  pub sound : (i j : ℕ) → 0 < i → count_in rs i ≡ 0 → new i j ≡ old i j
  pub start : (j : ℕ) → new 0 j ≡ old 0 j
  pub goal : (i : ℕ) → new i 31 ≡ old i 31

-- the mark of position i
abbrev pub is_marked : List Bool → ℕ → Bool
is_marked ms i = slice_index_or ms (i - 1) false

-- how many marks are not set
abbrev pub unmarked : List Bool → ℕ
unmarked [] = 0
unmarked (b ∷ bs) = bit (not b) + unmarked bs

-- a round over the first p positions: those newly reached are marked and their rows filled in; `more` tells whether there was one
pub record Round (p : ℕ) (ns : List ℕ) (rs : List TreeRecord) (run : ℕ → Table) (r : Reached) (old new : LegTable) (ms qs : List Bool) (more : Bool) : Type 0 where
  pub rows : (D : Legs) → RowsFilled ns rs run (is_marked ms) D (leg_of old) → RowsFilled ns rs run (is_marked qs) D (leg_of new)
  pub marks : (i : ℕ) → 0 < i → i ≤ p → is_marked qs i ≡ (is_marked ms i || is_counted r rs i)
  pub later : (i : ℕ) → p < i → is_marked qs i ≡ is_marked ms i
  pub none : more ≡ false → new ≡ old
  pub some : more ≡ true → unmarked qs < unmarked ms
  pub fewer : unmarked qs ≤ unmarked ms
