use Rattle.std.proofs.Common.{◌≡◌}
use Rattle.queue.specs.Queues.{held, room}
use Rattle.legs.specs.Turns.{turns_left, GoesOn, Stands}
use Rattle.legs.proofs.search.Given as goal

abbrev pub invariant-loop-best : goal.invariant-loop-best
invariant-loop-best g l = record {
  goes_on : GoesOn g.K.Length.kind l.initial.run l.run;
  room : room l.run.queue ≡ 153;
  searched : Stands g.K.Length.kind l.run (held l.run.queue);
}

abbrev pub decreases-loop-best : goal.decreases-loop-best
decreases-loop-best g l = turns_left l.run
