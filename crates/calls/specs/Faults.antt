-- The number of each fault of a call.
use Rattle.std.specs.Prelude.{ℕ}
use Rattle.calls.specs.declared.Fault.{Fault}
use Rattle.calls.specs.declared.Fault.TheVariants.{OffMap, AlreadyNamed, ListFull, SlotAbsent, AlreadyClosed, NotClosed, EndOffMap, StateLacks}

-- the number of a refusal
abbrev pub number_of : Fault → ℕ
number_of OffMap = 11
number_of AlreadyNamed = 12
number_of ListFull = 13
number_of SlotAbsent = 21
number_of AlreadyClosed = 22
number_of NotClosed = 23
number_of EndOffMap = 24
number_of StateLacks = 53
