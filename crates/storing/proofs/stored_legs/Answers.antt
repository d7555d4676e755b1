use Rattle.std.proofs.Common.{arith}
use Rattle.storing.proofs.Storing.{legs_none, legs_more, legs_all}
use Rattle.storing.proofs.stored_legs.Goals as goal

pub loop-i-init : goal.loop-i-init
loop-i-init c = grind (arith, legs_none)

pub loop-i-preserved : goal.loop-i-preserved
loop-i-preserved c = grind (arith, legs_more)

pub returns-clause-legs : goal.returns-clause-legs
returns-clause-legs c = grind (arith, legs_all)
