-- Whole lives, which streets their calls close, and what two lives have in common.
use Rattle.std.specs.Prelude.{◌≡◌, ℕ, min, Bool, true, false, cond, not, ◌&&◌, List, [], ◌∷◌, length, take, is_some}
use Rattle.maps.specs.Graph.{Graph, EqualStreets}
use Rattle.lengths.specs.Kinds.{Kind}
use Rattle.walks.specs.Streets.{empty_set}
use Rattle.calls.specs.Moments.{Moment, marked, after}
use Rattle.calls.specs.Gives.{Gives}
use Rattle.calls.specs.declared.Call.{Call}
use Rattle.calls.specs.declared.Call.TheVariants.{Name, Build, Close, Reopen, Ask, Tally, Replan}
use Rattle.calls.specs.declared.Answer.{Answer}
use Rattle.calls.specs.declared.Answer.TheVariants.{Done, Length, NoWay, Count, Refused}

-- a life from a moment on: each call has its answer at the moment that the calls before it lead to
abbrev pub Life : Kind → Graph → Moment → List Call → List Answer → Type 0
Life K G m [] [] = Unit {0}
Life K G m [] (a ∷ rs) = ⊥
Life K G m (c ∷ cs) [] = ⊥
Life K G m (c ∷ cs) (a ∷ rs) = Gives K G m c a × Life K G (after G m c) cs rs

-- the moment that a list of calls leads to
abbrev pub after_all : Graph → Moment → List Call → Moment
after_all G m [] = m
after_all G m (c ∷ cs) = after_all G (after G m c) cs

-- the common front: as much of a list as there are both calls and places for answers
abbrev pub front : {A : Type 0} → List Call → List Answer → List A → List A
front cs places xs = take (min (length cs) (length places)) xs

-- ---- plan or index
-- whether a plan (false) or an index (true) has the call
abbrev pub has_call : Bool → Call → Bool
has_call built (Name v) = not built
has_call built Build = not built
has_call built (Close e) = built
has_call built (Reopen e) = built
has_call built (Ask s t) = built
has_call built Tally = built
has_call built Replan = built

-- whether it is an index after the call
abbrev pub built_after : Bool → Call → Bool
built_after built (Name v) = built
built_after built Build = true
built_after built (Close e) = built
built_after built (Reopen e) = built
built_after built (Ask s t) = built
built_after built Tally = built
built_after built Replan = false

-- whether it is an index after these calls
abbrev pub built_from : Bool → List Call → Bool
built_from built [] = built
built_from built (c ∷ cs) = built_from (built_after built c) cs

-- whether the calls of a life lead to an index
abbrev pub built_by : List Call → Bool
built_by cs = built_from false cs

-- each call is one that its plan or index has
abbrev pub OrderlyFrom : Bool → List Call → Type 0
OrderlyFrom built [] = Unit {0}
OrderlyFrom built (c ∷ cs) = (has_call built c ≡ true) × OrderlyFrom (built_after built c) cs

-- so in a life, which begins with a plan
abbrev pub Orderly : List Call → Type 0
Orderly cs = OrderlyFrom false cs

-- ---- which streets are closed
-- an index closes and reopens streets of the map; every other call, and one of an absent slot, closes and reopens nothing
abbrev pub closed_after : Graph → Bool → (ℕ → Bool) → Call → ℕ → Bool
closed_after G built F (Name v) = F
closed_after G built F Build = F
closed_after G built F (Close e) = cond (built && is_some (G.street e)) (marked F e true) F
closed_after G built F (Reopen e) = cond (built && is_some (G.street e)) (marked F e false) F
closed_after G built F (Ask s t) = F
closed_after G built F Tally = F
closed_after G built F Replan = F

-- which slots are closed after these calls, if it was an index or not and those of F were
abbrev pub closed_from : Graph → Bool → (ℕ → Bool) → List Call → ℕ → Bool
closed_from G built F [] = F
closed_from G built F (c ∷ cs) = closed_from G (built_after built c) (closed_after G built F c) cs

-- which slots are closed after the calls of a life
abbrev pub closed_by : Graph → List Call → ℕ → Bool
closed_by G cs = closed_from G false empty_set cs

-- ---- two lives
-- as many junctions, and equal streets; the slot counts may differ
pub record Alike (G H : Graph) : Type 0 where
  pub junctions : G.junctions ≡ H.junctions
  pub streets : EqualStreets G H

-- closes, reopens, asks and tallies
abbrev pub tells : Call → Bool
tells (Name v) = false
tells Build = false
tells (Close e) = true
tells (Reopen e) = true
tells (Ask s t) = true
tells Tally = true
tells Replan = false

-- the closes, reopens, asks and tallies of a list, in its order
abbrev pub telling : List Call → List Call
telling [] = []
telling (c ∷ cs) = cond (tells c) (c ∷ telling cs) (telling cs)

-- an answer apart from the redone count
abbrev pub apart_from_redone : Answer → Answer
apart_from_redone Done = Done
apart_from_redone (Length l r) = Length l 0
apart_from_redone (NoWay r) = NoWay 0
apart_from_redone (Count k) = Count k
apart_from_redone (Refused f) = Refused f

-- the answers to the closes, reopens, asks and tallies of a list, apart from the redone counts
abbrev pub told : List Call → List Answer → List Answer
told [] rs = []
told (c ∷ cs) [] = []
told (c ∷ cs) (a ∷ rs) = cond (tells c) (apart_from_redone a ∷ told cs rs) (told cs rs)
