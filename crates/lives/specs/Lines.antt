-- Lines of which some are calls: the calls among them, and the answers in the places of these.
use Rattle.std.specs.Prelude.{◌≡◌, ◌≤◌, ℕ, zero, suc, min, List, [], ◌∷◌, length, take, Some, None, Option}
use Rattle.std.specs.List.{slice_get}
use Rattle.maps.specs.Graph.{Graph}
use Rattle.lengths.specs.Kinds.{Kind}
use Rattle.calls.specs.Moments.{Moment, created, after}
use Rattle.calls.specs.Lives.{Life, after_all}
use Rattle.calls.specs.declared.Call.{Call}
use Rattle.calls.specs.declared.Answer.{Answer}

-- the common front: as much of a list as there are both lines and places for answers
abbrev pub common_front : {L B : Type 0} → List L → List Answer → List B → List B
common_front lines places xs = take (min (length lines) (length places)) xs

-- the call of a line, if it is one, before those of the lines after it
abbrev pub with_call : Option Call → List Call → List Call
with_call None cs = cs
with_call (Some c) cs = c ∷ cs

-- the calls among the lines, in their order; f says which call a line is, if any
abbrev pub calls_among : {L : Type 0} → (L → Option Call) → List L → List Call
calls_among f [] = []
calls_among f (x ∷ xs) = with_call (f x) (calls_among f xs)

-- the answer in the place of a line, if that is a call, before those of the lines after it
abbrev pub with_answer : Option Call → Answer → List Answer → List Answer
with_answer None a rs = rs
with_answer (Some c) a rs = a ∷ rs

-- the answers in the places of the lines that are calls
abbrev pub answers_among : {L : Type 0} → (L → Option Call) → List L → List Answer → List Answer
answers_among f [] rs = []
answers_among f (x ∷ xs) [] = []
answers_among f (x ∷ xs) (a ∷ rs) = with_answer (f x) a (answers_among f xs rs)

-- the call that line j (from 0) is; none if it is no call, and past the last line
abbrev pub call_at : {L : Type 0} → (L → Option Call) → List L → ℕ → Option Call
call_at f [] j = None
call_at f (x ∷ xs) zero = f x
call_at f (x ∷ xs) (suc j) = call_at f xs j

-- every place but those of calls holds what it held before
abbrev pub OthersKept : {L : Type 0} → (L → Option Call) → List L → List Answer → List Answer → Type 0
OthersKept f lines before now = (j : ℕ) → call_at f lines j ≡ None → slice_get now j ≡ slice_get before j

-- the calls among the lines below i have their answers in out, and lead to the moment m; the other places are as before
pub record LivedLines {L : Type 0} (f : L → Option Call) (K : Kind) (G : Graph) (lines : List L) (before out : List Answer) (i : ℕ) (m : Moment) : Type 0 where
  pub within : i ≤ length lines
  pub room : i ≤ length out
  pub places : length out ≡ length before
  pub so_far : Life K G created (calls_among f (take i lines)) (answers_among f (take i lines) (take i out))
  pub at : m ≡ after_all G created (calls_among f (take i lines))
  pub kept : OthersKept f lines before out

-- a state that has come to the moment m has lived on: to the end of its turn, or else as far as lines and places reach
abbrev pub LivedOn : {L : Type 0} → (L → Option Call) → Kind → Graph → List L → List Answer → List Answer → Moment → Call → Option ℕ → Type 0
LivedOn f K G lines before out m c None = LivedLines f K G lines before out (min (length lines) (length out)) m
LivedOn f K G lines before out m c (Some i) = LivedLines f K G lines before out i (after G m c)
