-- An oracle between two calls, when each call is refused, and what each call leaves.
use Rattle.std.specs.Prelude.{ℕ, ◌+◌, min, Bool, true, false, cond, not, ◌&&◌, List, [], ◌∷◌, ◌++◌, length, is_some, Some, None, Option, nat_le}
use Rattle.maps.specs.Graph.{Graph}
use Rattle.walks.specs.Streets.{empty_set, member}
pub use Rattle.asks.specs.Held.{marked}
use Rattle.calls.specs.declared.Fault.{Fault}
use Rattle.calls.specs.declared.Fault.TheVariants.{OffMap, AlreadyNamed, ListFull, SlotAbsent, AlreadyClosed, NotClosed, EndOffMap}
use Rattle.calls.specs.declared.Call.{Call}
use Rattle.calls.specs.declared.Call.TheVariants.{Name, Build, Close, Reopen, Ask, Tally, Replan}

-- a plan or a built index, its transit list, which slots are closed, and its tally
pub record Moment : Type 0 where
  pub built : Bool
  pub listed : List ℕ
  pub closed : ℕ → Bool
  pub tally : ℕ

-- a new plan: nothing named, nothing closed, tally 0
abbrev pub created : Moment
created = record { built = false; listed = []; closed = empty_set; tally = 0 }

-- ---- the first fault of each call, in the order of their numbers
-- the test whether junction v is 1 to n
abbrev pub on_map : Graph → ℕ → Bool
on_map G v = nat_le 1 v && nat_le v G.junctions

-- name v, with this transit list: off the map, named already, sixteen named
abbrev pub name_fault : Graph → List ℕ → ℕ → Option Fault
name_fault G ns v = cond (not (on_map G v)) (Some OffMap) (cond (member ns v) (Some AlreadyNamed) (cond (nat_le 16 (length ns)) (Some ListFull) None))

-- close e, with these slots closed: absent, closed already
abbrev pub close_fault : Graph → (ℕ → Bool) → ℕ → Option Fault
close_fault G F e = cond (not (is_some (G.street e))) (Some SlotAbsent) (cond (F e) (Some AlreadyClosed) None)

-- reopen e, with these slots closed: absent, not closed
abbrev pub reopen_fault : Graph → (ℕ → Bool) → ℕ → Option Fault
reopen_fault G F e = cond (not (is_some (G.street e))) (Some SlotAbsent) (cond (F e) None (Some NotClosed))

-- ask s t: an end off the map
abbrev pub ask_fault : Graph → ℕ → ℕ → Option Fault
ask_fault G s t = cond (on_map G s && on_map G t) None (Some EndOffMap)

-- ---- what each call leaves
-- as it was where there is a fault
abbrev pub unless : Option Fault → Moment → Moment → Moment
unless None old new = new
unless (Some f) old new = old

-- v stands at the end of the transit list
abbrev pub with_name : Moment → ℕ → Moment
with_name m v = record { built = m.built; listed = m.listed ++ v ∷ []; closed = m.closed; tally = m.tally }

-- slot e is closed or open, and every other as it was
abbrev pub with_mark : Moment → ℕ → Bool → Moment
with_mark m e b = record { built = m.built; listed = m.listed; closed = marked m.closed e b; tally = m.tally }

-- one ask more is answered, to 65,535 at most
abbrev pub with_ask : Moment → Moment
with_ask m = record { built = m.built; listed = m.listed; closed = m.closed; tally = min (m.tally + 1) 65535 }

-- built
abbrev pub as_index : Moment → Moment
as_index m = record { built = true; listed = m.listed; closed = m.closed; tally = m.tally }

-- planned anew: closures and tally stay, the transit list is emptied
abbrev pub as_plan : Moment → Moment
as_plan m = record { built = false; listed = []; closed = m.closed; tally = m.tally }

-- the moment after a call; one that the state lacks changes nothing
abbrev pub after : Graph → Moment → Call → Moment
after G m (Name v) = cond m.built m (unless (name_fault G m.listed v) m (with_name m v))
after G m Build = cond m.built m (as_index m)
after G m (Close e) = cond m.built (unless (close_fault G m.closed e) m (with_mark m e true)) m
after G m (Reopen e) = cond m.built (unless (reopen_fault G m.closed e) m (with_mark m e false)) m
after G m (Ask s t) = cond m.built (unless (ask_fault G s t) m (with_ask m)) m
after G m Tally = m
after G m Replan = cond m.built (as_plan m) m
