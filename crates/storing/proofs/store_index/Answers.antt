use Rattle.std.proofs.Common.{◌≡◌, ◌≤◌, length, ◌∙◌, arith, length-set}
use Rattle.tables.specs.Tables.{list_of}
use Rattle.storing.specs.Records.{tree_positions}
use Rattle.storing.proofs.Storing.{row_more}
use Rattle.storing.proofs.store_index.Goals as goal

pub loop-at-preserved : goal.loop-at-preserved
loop-at-preserved g c =
    let inv = c.loop-at.invariant in
    record {
      places = length-set c.loop-at.holders c.loop-at.at c.holders_of.result ∙ inv.places;
      rows = row_more (λ _ h. h.count ≤ 16) c.loop-at.holders c.loop-at.at c.holders_of.result (omega (arith, inv.places, c.loop-at-test.true)) c.holders_of.ensures.few inv.rows;
      index = row_more (λ e h. list_of h ≡ tree_positions (g.M.Map.graph c.args.map.now) c.args.trees.now (length c.args.trees.now) e) c.loop-at.holders c.loop-at.at c.holders_of.result (omega (arith, inv.places, c.loop-at-test.true)) c.holders_of.ensures.list inv.index;
    }
