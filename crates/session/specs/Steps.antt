-- The two ways through the lines of a text: first the call of each line is noted, then each line has its output line.
use Rattle.std.specs.Prelude.{◌≡◌, ℕ, ◌+◌, ◌≤◌, List, [], ◌∷◌, ◌++◌, length, Ok, Err, Option}
use Rattle.std.specs.Result.{result_ok}
use Rattle.calls.specs.declared.Call.{Call}
use Rattle.calls.specs.declared.Answer.{Answer}
use Rattle.commands.specs.Outcome.{Outcome}
use Rattle.output.specs.Room.{room, line_room}
use Rattle.output.specs.Written.{answer_line, fault_line}
use Rattle.session.specs.Readings.{Reading}

-- o is the call that the line spells, or none if it is refused
abbrev pub Noted : List ℕ → Option Call → Type 0
Noted l o = (r : Reading) × Outcome l r × (o ≡ result_ok r)

-- so for each line
abbrev pub AllNoted : List (List ℕ) → List (Option Call) → Type 0
AllNoted [] [] = Unit {0}
AllNoted [] (o ∷ os) = ⊥
AllNoted (l ∷ ls) [] = ⊥
AllNoted (l ∷ ls) (o ∷ os) = Noted l o × AllNoted ls os

-- the output line of command line n, if a is the answer in its place
abbrev pub line_for : ℕ → Reading → Answer → List ℕ
line_for n (Ok c) a = answer_line n a
line_for n (Err e) a = fault_line n e

-- the output line of command line n is put at the end, if room is left for the longest one
pub record LinePut (n : ℕ) (line : List ℕ) (a : Answer) (old new : List ℕ) : Type 0 where
  pub reading : Reading
  pub outcome : Outcome line reading
  pub added : length old + (line_room + length line) ≤ room → new ≡ old ++ line_for n reading a
  pub grows : length new ≤ length old + (line_room + length line)

-- what is printed for the lines, the first of them line n, with an answer in the place of each
abbrev pub Told : ℕ → List (List ℕ) → List Answer → List ℕ → Type 0
Told n [] answers bytes = bytes ≡ []
Told n (l ∷ ls) [] bytes = ⊥
Told n (l ∷ ls) (a ∷ answers) bytes = (r : Reading) × (more : List ℕ) × Outcome l r × (bytes ≡ line_for n r a ++ more) × Told (n + 1) ls answers more
