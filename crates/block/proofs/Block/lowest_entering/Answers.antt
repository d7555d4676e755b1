use Rattle.std.proofs.Common.{◌*◌, sym, subst, arith, rules, tests}
use Rattle.maps.specs.Graph.{Lowest, Enters}
use Rattle.formats.proofs.Finds.{found_lowest}
use Rattle.block.specs.Layout.{cell_count, block_graph}
use Rattle.block.proofs.Streets.{entering, lowest_entering_is}
use Rattle.block.proofs.Block.lowest_entering.Goals as goal

pub returns : goal.returns
returns c =
    let bs = c.args.self.now.bytes.now in
    let v = c.args.v in
    let is = found_lowest (entering bs v c.args.after) _ _ c.args.after (4 * cell_count bs) _ c.find.result (omega arith) (omega (arith, c.slots-last.ensures)) c.find.ensures.ran (λ x b q k. search (rules, tests)) in
    subst (Lowest (Enters (block_graph bs) v) c.args.after) (sym is) (lowest_entering_is bs v c.args.after c.args.self.now.sound (omega (arith, c.if-after-last.false, c.slots-last.ensures)))
