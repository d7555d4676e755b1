use Rattle.std.proofs.Common.{refl, sym, ◌∙◌, arith}
use Rattle.tables.proofs.Filling.{row_none, row_more, row_all}
use Rattle.tables.proofs.rows.fill_row.Goals as goal

pub loop-j-init : goal.loop-j-init
loop-j-init c = (refl, sym (row_none _ _ _ _ _))

pub loop-j-preserved : goal.loop-j-preserved
loop-j-preserved c = grind (arith, row_more)

pub returns-clause-legs : goal.returns-clause-legs
returns-clause-legs c = c.loop-j.invariant.1 ∙ row_all _ _ _ _ _ _ (omega (arith, c.args.legs.now.few))
