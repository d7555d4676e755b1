-- What a look at the trees, the legs and the inverted index answers, by list positions from 1.
use Rattle.std.specs.Prelude.{ℕ, ◌-◌, cond, List, length, None, Option, nat_le}
use Rattle.std.specs.List.{slice_get}
use Rattle.maps.specs.Graph.{Graph}
use Rattle.lengths.specs.Kinds.{Kind}
use Rattle.walks.specs.Runs.{Entry}
use Rattle.asks.specs.Index.{tree_at, positions}
use Rattle.asks.specs.Handed.{is_position}

-- slot and length of junction v in the tree at position i
abbrev pub tree_look : Kind → Graph → List ℕ → ℕ → ℕ → Option Entry
tree_look K G ns i v = cond (is_position (length ns) i) (tree_at K G ns i v) None

-- the k-th position, k from 1, of the trees that hold slot e
abbrev pub index_look : Kind → Graph → List ℕ → ℕ → ℕ → Option ℕ
index_look K G ns e k = cond (nat_le 1 k) (slice_get (positions K G ns e) (k - 1)) None
