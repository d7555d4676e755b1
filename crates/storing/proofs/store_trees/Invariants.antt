use Rattle.std.proofs.Common.{◌≡◌, length}
use Rattle.trees.specs.Marks.{closed_in}
use Rattle.storing.specs.Records.{TreesStored}
use Rattle.storing.proofs.store_trees.Given as goal

abbrev pub invariant-loop-i : goal.invariant-loop-i
invariant-loop-i g l = (length l.trees ≡ 16) × TreesStored g.K.Length.kind (g.M.Map.graph l.map) l.transit (closed_in l.closed) l.trees l.i
