-- The inverted index: for each street the positions of the trees that hold it.
use Rattle.std.specs.Prelude.{ℕ, ◌-◌, ◌<◌, List, [], ◌∷◌, length, filter, slice_index}
use Rattle.std.specs.List.{range_with_len, AllByRecursion}
use Rattle.maps.specs.Graph.{Graph}
use Rattle.lengths.specs.Kinds.{Kind}
use Rattle.walks.specs.Runs.{Table}
use Rattle.walks.specs.Trees.{tree, holds_street}

-- the transit node at position i of the list; positions go from 1
abbrev pub node_at : List ℕ → ℕ → ℕ
node_at ns i = slice_index ns (i - 1)

-- the tree of the transit node at position i
abbrev pub tree_at : Kind → Graph → List ℕ → ℕ → Table
tree_at K G ns i = tree K G ns (node_at ns i)

-- those of positions 1 to k, rising, whose tree holds street e
abbrev pub positions_up_to : Kind → Graph → List ℕ → ℕ → ℕ → List ℕ
positions_up_to K G ns k e = filter (λ i. holds_street G (tree_at K G ns i) e) (range_with_len 1 k)

-- the inverted index: the positions, rising, of the trees that hold street e
abbrev pub positions : Kind → Graph → List ℕ → ℕ → List ℕ
positions K G ns e = positions_up_to K G ns (length ns) e

-- each number is below all that stand after it, so that none stands twice
abbrev pub Rising : List ℕ → Type 0
Rising [] = Unit {0}
Rising (x ∷ xs) = AllByRecursion (λ y. x < y) xs × Rising xs
