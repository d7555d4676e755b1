use Rattle.std.proofs.Common.{arith, length-set}
use Rattle.std.proofs.ByRecursion.{All-get_or}
use Rattle.walks.specs.Trees.{OnMap}
use Rattle.storing.proofs.Storing.{trees_more}
use Rattle.storing.proofs.store_trees.Goals as goal

pub loop-i-preserved : goal.loop-i-preserved
loop-i-preserved g c =
    let on = All-get_or (OnMap (g.M.Map.graph c.args.map.now)) c.args.transit.now c.loop-i.i 0 c.loop-i-test.true c.requires.on_map in (
      simp length-set c.loop-i.invariant.0,
      trees_more _ _ _ _ _ _ _ (omega arith) (c.tree_record.ensures.tree on) c.tree_record.ensures.count c.loop-i.invariant.1,
    )
