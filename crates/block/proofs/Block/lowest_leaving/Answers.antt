use Rattle.std.proofs.Common.{◌*◌, sym, subst, arith, rules, tests}
use Rattle.maps.specs.Graph.{Lowest, Leaves}
use Rattle.formats.proofs.Finds.{found_lowest}
use Rattle.block.specs.Layout.{filled, block_graph}
use Rattle.block.proofs.Streets.{lowest_leaving_is}
use Rattle.block.proofs.Block.lowest_leaving.Goals as goal

pub returns : goal.returns
returns c =
    let bs = c.args.self.now.bytes.now in
    let v = c.args.v in
    let before = c.max-before.result in
    let is = found_lowest (filled bs) _ _ before (4 * v) _ c.find.result (omega arith) (omega arith) c.find.ensures.ran (λ x b q k. search (rules, tests)) in
    subst (Lowest (Leaves (block_graph bs) v) c.args.after) (sym is)
    (lowest_leaving_is bs v c.args.after before (omega (arith, c.if-v-eq0.false)) (omega (arith, c.max-before.ensures)) (omega (arith, c.max-before.ensures)) (omega (arith, c.if-before-last.false)) (λ k lo hi. omega (arith, c.max-before.ensures)))
