use Rattle.std.proofs.Common.{◌≡◌, ℕ, ◌-◌, ◌<◌, ◌≤◌, length, slice_index_or}
use Rattle.tables.specs.Tables.{no_holders, holders_in}
use Rattle.storing.specs.Records.{tree_positions}
use Rattle.storing.proofs.store_index.Given as goal

abbrev pub invariant-loop-at : goal.invariant-loop-at
invariant-loop-at g l =
    record {
      places : length l.holders ≡ 512;
      rows : (e : ℕ) → 0 < e → e ≤ l.at → (slice_index_or l.holders (e - 1) no_holders).count ≤ 16;
      index : (e : ℕ) → 0 < e → e ≤ l.at → holders_in l.holders e ≡ tree_positions (g.M.Map.graph l.map) l.trees (length l.trees) e;
    }
