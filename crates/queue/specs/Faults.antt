-- The refusal of a put and its number.
use Rattle.std.specs.Prelude.{ℕ}
use Rattle.queue.specs.declared.Full.{Full}

-- every place is taken: 41
abbrev pub number : Full → ℕ
number f = 41
