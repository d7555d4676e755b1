-- How much room an output text and one of its lines have.
use Rattle.std.specs.Prelude.{ℕ}

-- the most bytes of a line, apart from digits that are copied from the command: `length L redone R` with numbers of twenty digits, and its end
abbrev pub line_room : ℕ
line_room = 56

-- the most bytes of an output text: 57 for each of the 4,096 bytes of the longest command text
abbrev pub room : ℕ
room = 233472
