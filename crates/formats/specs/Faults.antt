-- Why bytes are refused as a map file: the number of each fault, and of an opening's answer.
use Rattle.std.specs.Prelude.{ℕ, Ok, Err, Result}
use Rattle.formats.specs.declared.OpenFault.{OpenFault}
use Rattle.formats.specs.declared.OpenFault.TheVariants.{Short, FirstByte, Range, Size, NotEmpty, Ends, Link, Edge}

-- the number of a refusal
abbrev pub number_of : OpenFault → ℕ
number_of Short = 1
number_of FirstByte = 2
number_of Range = 3
number_of Size = 4
number_of NotEmpty = 5
number_of Ends = 6
number_of Link = 7
number_of Edge = 8

-- the number that an opening answers, 0 where it accepts
abbrev pub answered : Result (Unit {0}) OpenFault → ℕ
answered (Ok u) = 0
answered (Err f) = number_of f
