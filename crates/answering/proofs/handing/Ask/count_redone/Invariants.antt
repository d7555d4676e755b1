use Rattle.std.proofs.Common.{◌≡◌, ◌≤◌}
use Rattle.asks.specs.Reached.{passing}
use Rattle.answering.specs.Handing.{is_counted}
use Rattle.answering.proofs.handing.Ask.count_redone.Given as goal

abbrev pub invariant-loop-i : goal.invariant-loop-i
invariant-loop-i g l = (l.redone ≡ passing (is_counted l.reached l.self.tables.now.trees) l.i) × (l.redone ≤ l.i)
