use Rattle.std.proofs.Common.{◌≡◌, ◌++◌, take}
use Rattle.output.specs.Printed.{printed}
use Rattle.output.specs.Written.{joined}
use Rattle.output.proofs.buffer.Output.put_line.Given as goal

-- the parts before are put
abbrev pub invariant-loop-part : goal.invariant-loop-part
invariant-loop-part l = printed l.self ≡ printed l.initial.self ++ joined (take l.part-index l.parts)
