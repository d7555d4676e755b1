-- The table that a tree record holds.
use Rattle.std.specs.Prelude.{ℕ, zero, suc, Option, Some, None, slice_index, slice_index_or}
use Rattle.walks.specs.Runs.{Entry, Table}
use Rattle.trees.specs.declared.BoundedTree.{BoundedTree}

-- slot and length of a junction, if it has a slot
abbrev pub entry_of : Option ℕ → ℕ → Option Entry
entry_of None l = None
entry_of (Some e) l = Some (e, l)

-- slot and length of each settled junction: those of junction v stand at v - 1
unfoldable pub table_of : BoundedTree → Table
table_of t zero = None
table_of t (suc i) = entry_of (slice_index_or t.slots i None) (slice_index t.lengths i)
