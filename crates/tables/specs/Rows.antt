-- A row of a leg table, by the lengths in a tree.
use Rattle.std.specs.Prelude.{ℕ, cond, ◌&&◌, List, length, ◌==◌}
use Rattle.walks.specs.Runs.{Table, length_of}
use Rattle.walks.specs.Legs.{Legs}
use Rattle.legs.specs.Tables.{are_positions}
use Rattle.asks.specs.Index.{node_at}

-- the legs D, but from position p to each other of k positions its transit node's length in the table
abbrev pub with_row_to : ℕ → List ℕ → ℕ → Table → Legs → Legs
with_row_to k ns p T D i j = cond (are_positions k i j && i == p) (length_of (T (node_at ns j))) (D i j)

-- the same to each other position of the list
abbrev pub with_row : List ℕ → ℕ → Table → Legs → Legs
with_row ns p T D i j = cond (are_positions (length ns) i j && i == p) (length_of (T (node_at ns j))) (D i j)
