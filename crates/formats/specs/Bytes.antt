-- Bytes of a file, and numbers of several bytes with the low byte first.
use Rattle.std.specs.Prelude.{ℕ, ◌+◌, ◌*◌, ◌^◌, ◌<◌, List, slice_index}

-- the byte at place i, counted from 0; 0 past the end
abbrev pub byte_at : List ℕ → ℕ → ℕ
byte_at bs i = slice_index bs i

-- the number that two bytes from i on hold
abbrev pub two_at : List ℕ → ℕ → ℕ
two_at bs i = byte_at bs i + byte_at bs (i + 1) * 256

-- the number that four bytes from i on hold
abbrev pub four_at : List ℕ → ℕ → ℕ
four_at bs i = byte_at bs i + byte_at bs (i + 1) * 256 + byte_at bs (i + 2) * 65536 + byte_at bs (i + 3) * 16777216

-- each number of the list is a byte
abbrev pub Bytes : List ℕ → Type 0
Bytes bs = (k : ℕ) → byte_at bs k < 2 ^ 8
