-- What the tree records of a list hold, and the legs and positions that follow from them.
use Rattle.std.specs.Prelude.{◌≡◌, ℕ, ◌<◌, ◌≤◌, Bool, cond, List, length, None, filter, slice_index, slice_index_or}
use Rattle.std.specs.List.{range_with_len}
use Rattle.maps.specs.Graph.{Graph}
use Rattle.lengths.specs.Kinds.{Kind}
use Rattle.walks.specs.Runs.{length_of}
use Rattle.walks.specs.Trees.{tree, holds_street}
use Rattle.walks.specs.Legs.{Legs}
use Rattle.asks.specs.Held.{closed_held}
use Rattle.asks.specs.Index.{node_at}
use Rattle.legs.specs.Tables.{are_positions}
use Rattle.trees.specs.Trees.{table_of}
use Rattle.tables.specs.declared.TreeRecord.{TreeRecord}
use Rattle.tables.specs.Tables.{no_record, tree_in}

-- the first m records have the trees of the transit list, each with the number of streets of F that it holds
pub record TreesStored (K : Kind) (G : Graph) (ns : List ℕ) (F : ℕ → Bool) (rs : List TreeRecord) (m : ℕ) : Type 0 where
  pub within : m ≤ length rs
  pub trees : (i : ℕ) → i < m → table_of (slice_index_or rs i no_record).tree ≡ tree K G ns (slice_index ns i)
  pub counts : (i : ℕ) → i < m → (slice_index_or rs i no_record).closed ≡ closed_held F (tree K G ns (slice_index ns i)) G.junctions

-- the legs by the stored trees: from each position to each other one its transit node's length in the tree
abbrev pub tree_legs : List TreeRecord → List ℕ → Legs
tree_legs rs ns i j = cond (are_positions (length ns) i j) (length_of (tree_in rs i (node_at ns j))) None

-- the positions, rising, of the first k stored trees that hold street e
abbrev pub tree_positions : Graph → List TreeRecord → ℕ → ℕ → List ℕ
tree_positions G rs k e = filter (λ i. holds_street G (tree_in rs i) e) (range_with_len 1 k)
