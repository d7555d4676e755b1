-- What a `Lines` has left.
use Rattle.std.specs.Prelude.{ℕ, List}
use Rattle.commands.specs.Text.{lines_of}
use Rattle.commands.specs.declared.lines.Lines.{Lines}

-- the lines that come next
abbrev pub lines_left : Lines → List (List ℕ)
lines_left s = lines_of s.rest.now
