use Rattle.std.proofs.Common.{◌≡◌, length, take}
use Rattle.marking.specs.Marking.{Recounted}
use Rattle.marking.proofs.counts.recount.Given as goal

abbrev pub invariant-loop-position : goal.invariant-loop-position
invariant-loop-position l = Recounted l.closed (take l.position-index l.row) l.initial.trees l.trees × (length l.trees ≡ length l.initial.trees)
