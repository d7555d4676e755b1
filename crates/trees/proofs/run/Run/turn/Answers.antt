use Rattle.std.proofs.Common.{arith}
use Rattle.trees.proofs.Turns.{turn_skips, turn_fits, turn_settles, turn_less}
use Rattle.trees.proofs.run.Run.turn.Goals as goal

pub put_leaving-requires-clause-fits : goal.put_leaving-requires-clause-fits
put_leaving-requires-clause-fits g c =
    let run = c.args.self.now in
    let w = g.M.Map.lawful run.map.now in
    let f = turn_fits g.K.Length.kind g.met.K.Length.lawful (g.M.Map.graph run.map.now) w run c.args.best c.requires.underway c.requires.best _ c.in-Some.ensures c.settle.new.self in
    let m = w.few_slots in
    let x = c.requires.fits in
    omega arith

pub returns-in-Some-clause-underway : goal.returns-in-Some-clause-underway
returns-in-Some-clause-underway g c =
    let run = c.args.self.now in
    let told = c.put_leaving.ensures in
    turn_settles g.K.Length.kind g.met.K.Length.lawful (g.M.Map.graph run.map.now) (g.M.Map.lawful run.map.now) run c.args.best c.requires.underway c.requires.best _ c.in-Some.ensures
    c.settle.new.self c.settle.ensures c.put_leaving.new.self told.kept told.tree told.held

pub returns-in-Some-clause-less : goal.returns-in-Some-clause-less
returns-in-Some-clause-less g c =
    let run = c.args.self.now in
    let told = c.put_leaving.ensures in
    turn_less g.K.Length.kind g.met.K.Length.lawful (g.M.Map.graph run.map.now) (g.M.Map.lawful run.map.now) run c.args.best c.requires.underway c.requires.best _ c.in-Some.ensures
    c.settle.new.self c.settle.ensures c.put_leaving.new.self told.kept told.tree told.held

pub returns-in_default-clause-underway : goal.returns-in_default-clause-underway
returns-in_default-clause-underway g c =
    let run = c.args.self.now in
    turn_skips g.K.Length.kind g.met.K.Length.lawful (g.M.Map.graph run.map.now) (g.M.Map.lawful run.map.now) run c.args.best c.requires.underway c.in_default.ensures
