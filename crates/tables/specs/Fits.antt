-- When the tables of an oracle fit their map and kind.
use Rattle.std.specs.Prelude.{◌≡◌, ℕ, ◌-◌, ◌<◌, ◌≤◌, false, length, slice_index_or}
use Rattle.maps.specs.Graph.{Graph}
use Rattle.lengths.specs.Kinds.{Kind}
use Rattle.asks.specs.Held.{closed_held}
use Rattle.asks.specs.Index.{tree_at, positions}
use Rattle.asks.specs.Handed.{stored_legs}
use Rattle.legs.specs.Tables.{positions_of, leg_of}
use Rattle.calls.specs.Fitting.{FitsMap}
use Rattle.tables.specs.declared.Tables.{Tables}
use Rattle.tables.specs.Tables.{transit_of, closed_of, moment_of, no_holders, tree_in, count_in, holders_in}

-- the tables of a plan fit the map
pub record PlanFits (G : Graph) (x : Tables) : Type 0 where
  pub moment : FitsMap G (moment_of false x)

-- the stored trees, counts, legs and positions are the defined ones
pub record Stored (K : Kind) (G : Graph) (x : Tables) : Type 0 where
  pub trees : (i : ℕ) → 0 < i → i ≤ length (transit_of x) → tree_in x.trees i ≡ tree_at K G (transit_of x) i
  pub counts : (i : ℕ) → 0 < i → i ≤ length (transit_of x) → count_in x.trees i ≡ closed_held (closed_of x) (tree_at K G (transit_of x) i) G.junctions
  pub places : positions_of x.legs ≡ length (transit_of x)
  pub legs : (i j : ℕ) → leg_of x.legs i j ≡ stored_legs K G (transit_of x) i j
  pub rows : (e : ℕ) → 0 < e → e ≤ 512 → (slice_index_or x.holders (e - 1) no_holders).count ≤ 16
  pub index : (e : ℕ) → 0 < e → e ≤ 512 → holders_in x.holders e ≡ positions K G (transit_of x) e

-- the tables of an index fit the map and the kind
pub record IndexFits (K : Kind) (G : Graph) (x : Tables) : Type 0 where
  pub plan : PlanFits G x
  pub stored : Stored K G x
