use Rattle.std.proofs.Common.{arith}
use Rattle.std.proofs.lemmas.Grind.{common_steps}
use Rattle.std.proofs.lemmas.Bool.Decides.{nat_tests}
use Rattle.asks.proofs.Building.{passing_next}
use Rattle.answering.specs.Handing.{is_counted}
use Rattle.answering.proofs.handing.Ask.count_redone.Goals as goal

pub loop-i-preserved : goal.loop-i-preserved
loop-i-preserved g c =
    let more = passing_next (is_counted c.args.reached.now c.args.self.now.tables.now.trees) c.loop-i.i in
    (grind (arith, common_steps, nat_tests), grind (arith, common_steps, nat_tests))
