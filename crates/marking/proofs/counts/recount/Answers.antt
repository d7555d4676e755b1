use Rattle.std.proofs.Common.{arith, ◌∙◌, length-set}
use Rattle.marking.proofs.Raising.{row_room, row_more}
use Rattle.marking.proofs.counts.recount.Goals as goal

pub count_mark-requires : goal.count_mark-requires
count_mark-requires c =
    row_room c.args.row.now c.requires.within c.loop-position.position-index c.loop-position-test.true c.from.result c.from.ensures c.args.closed
    c.args.trees.now c.loop-position.trees c.requires.room c.loop-position.invariant.0

pub loop-position-preserved : goal.loop-position-preserved
loop-position-preserved c = (
  row_more c.args.row.now c.requires.within c.loop-position.position-index c.loop-position-test.true c.from.result c.from.ensures c.args.closed
      c.args.trees.now c.loop-position.trees c.requires.room c.loop-position.invariant.0 (omega (arith, c.loop-position.invariant.1)) c.count_mark.new.kept c.count_mark.ensures,
  length-set c.loop-position.trees _ _ ∙ c.loop-position.invariant.1,
)
