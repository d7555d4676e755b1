use Rattle.std.proofs.Common.{◌-◌, ◌+◌, ◌≤◌}
use Rattle.legs.proofs.Spreads.{PositionsPut}
use Rattle.legs.proofs.searching.Search.put_legs.Given as goal

abbrev pub invariant-loop-to : goal.invariant-loop-to
invariant-loop-to g l = record {
  within : l.to ≤ l.to-end + 1;
  put : PositionsPut g.K.Length.kind l.initial.self l.from l.walked (l.to - 1) l.self;
}
