-- What each call answers at a moment.
use Rattle.std.specs.Prelude.{◌≡◌, ℕ, cond, Some, None, Ok, Err, Option, Result}
use Rattle.maps.specs.Graph.{Graph}
use Rattle.lengths.specs.Kinds.{Kind}
use Rattle.walks.specs.Walks.{BestOpen}
use Rattle.asks.specs.Redone.{Redone}
use Rattle.calls.specs.Moments.{Moment, name_fault, close_fault, reopen_fault, ask_fault}
use Rattle.calls.specs.declared.Fault.{Fault}
use Rattle.calls.specs.declared.Fault.TheVariants.{StateLacks}
use Rattle.calls.specs.declared.Call.{Call}
use Rattle.calls.specs.declared.Call.TheVariants.{Name, Build, Close, Reopen, Ask, Tally, Replan}
use Rattle.calls.specs.declared.Answer.{Answer}
use Rattle.calls.specs.declared.Answer.TheVariants.{Done, Length, NoWay, Count, Refused}
use Rattle.calls.specs.declared.Reply.{Reply}

-- done, or refused with this fault: as a result of a call of its own
abbrev pub outcome : Option Fault → Result (Unit {0}) Fault
outcome None = Ok tt
outcome (Some f) = Err f

-- such a result as an answer
abbrev pub said_of : Result (Unit {0}) Fault → Answer
said_of (Ok u) = Done
said_of (Err f) = Refused f

-- done, or refused with this fault: as an answer
abbrev pub said : Option Fault → Answer
said None = Done
said (Some f) = Refused f

-- ---- ask
-- what an ask finds: the best length of the open walks from s to t or none, and the redone count
abbrev pub Finds : Kind → Graph → Moment → ℕ → ℕ → Option ℕ → ℕ → Type 0
Finds K G m s t o r = BestOpen K G.street m.closed s t o × Redone K G m.listed m.closed s r

-- the right result of ask s t at an index: refused exactly if an end is off the map, else what it finds
abbrev pub Replied : Kind → Graph → Moment → ℕ → ℕ → Result Reply Fault → Type 0
Replied K G m s t (Err f) = ask_fault G s t ≡ Some f
Replied K G m s t (Ok y) = (ask_fault G s t ≡ None) × Finds K G m s t y.length y.redone

-- a length or no way, with the redone count
abbrev pub found : Option ℕ → ℕ → Answer
found None r = NoWay r
found (Some l) r = Length l r

-- the result of an ask as an answer
abbrev pub answer_of : Result Reply Fault → Answer
answer_of (Ok y) = found y.length y.redone
answer_of (Err f) = Refused f

-- a right answer to ask s t at an index
abbrev pub RightAnswer : Kind → Graph → Moment → ℕ → ℕ → Answer → Type 0
RightAnswer K G m s t a = (r : Result Reply Fault) × Replied K G m s t r × (a ≡ answer_of r)

-- ---- every call
-- the call answers a at this moment; one that the state lacks is refused so
abbrev pub Gives : Kind → Graph → Moment → Call → Answer → Type 0
Gives K G m (Name v) a = a ≡ cond m.built (Refused StateLacks) (said (name_fault G m.listed v))
Gives K G m Build a = a ≡ cond m.built (Refused StateLacks) Done
Gives K G m (Close e) a = a ≡ cond m.built (said (close_fault G m.closed e)) (Refused StateLacks)
Gives K G m (Reopen e) a = a ≡ cond m.built (said (reopen_fault G m.closed e)) (Refused StateLacks)
Gives K G m (Ask s t) a = cond m.built (RightAnswer K G m s t a) (a ≡ Refused StateLacks)
Gives K G m Tally a = a ≡ cond m.built (Count m.tally) (Refused StateLacks)
Gives K G m Replan a = a ≡ cond m.built Done (Refused StateLacks)
