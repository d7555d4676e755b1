-- The bounded run from any root, on the map or off it.
use Rattle.std.specs.Prelude.{ℕ, Bool, cond, ◌&&◌, List, None, nat_le, nat_lt}
use Rattle.maps.specs.Graph.{Graph}
use Rattle.lengths.specs.Kinds.{Kind}
use Rattle.walks.specs.Runs.{Table, bounded_run}

-- no junction is settled
abbrev pub none_settled : Table
none_settled _ = None

-- the test whether junction v is on the map: it is 1 to n
abbrev pub is_on_map : Graph → ℕ → Bool
is_on_map G v = nat_lt 0 v && nat_le v G.junctions

-- the bounded run from r for a root on the map; from a root off the map nothing is settled
abbrev pub run_on : Kind → Graph → List ℕ → (ℕ → Bool) → ℕ → Table
run_on K G ns F r = cond (is_on_map G r) (bounded_run K G ns F r) none_settled
