use Rattle.sheet.specs.Layout.{sheet_graph}
use Rattle.tables.specs.Fits.{PlanFits}
use Rattle.search_tests.proofs.life_tests.one_named_after_sixteen.Given as goal

abbrev pub invariant-loop-v : goal.invariant-loop-v
invariant-loop-v g l = PlanFits (sheet_graph l.plan.map.bytes.now) l.plan.tables
