use Rattle.queue.specs.Queues.{held}
use Rattle.trees.specs.Kept.{RunKept, RunUnderway, work_left}
use Rattle.trees.proofs.run.run_within.Given as goal

abbrev pub invariant-loop-best : goal.invariant-loop-best
invariant-loop-best g l = RunKept g.K.Length.kind l.initial.run l.run × RunUnderway g.K.Length.kind (g.M.Map.graph l.map) l.run (held l.run.queue)

abbrev pub decreases-loop-best : goal.decreases-loop-best
decreases-loop-best g l = work_left (g.M.Map.graph l.map) l.run
