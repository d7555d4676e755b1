-- The command lines of a text: what each stands for, the calls among them, and what is printed for each.
use Rattle.std.specs.Prelude.{ℕ, ◌+◌, List, [], ◌∷◌, ◌++◌, Ok, Err, Result}
use Rattle.calls.specs.declared.Call.{Call}
use Rattle.calls.specs.declared.Answer.{Answer}
use Rattle.commands.specs.Outcome.{Outcome}
use Rattle.commands.specs.declared.command.LineFault.{LineFault}
use Rattle.output.specs.Written.{answer_line, fault_line}

-- what a line stands for: a call, or the fault with which the line is refused
abbrev pub Reading : Type 0
Reading = Result Call LineFault

-- each line has its reading, by the grammar
abbrev pub Readings : List (List ℕ) → List Reading → Type 0
Readings [] [] = Unit {0}
Readings [] (r ∷ rs) = ⊥
Readings (l ∷ ls) [] = ⊥
Readings (l ∷ ls) (r ∷ rs) = Outcome l r × Readings ls rs

-- the calls among the readings, in the order of their lines
abbrev pub calls_of : List Reading → List Call
calls_of [] = []
calls_of (Ok c ∷ rs) = c ∷ calls_of rs
calls_of (Err e ∷ rs) = calls_of rs

-- the lines that are printed, the first for line n: the next answer for a line that is a call, and its fault for any other
abbrev pub written : ℕ → List Reading → List Answer → List ℕ
written n [] answers = []
written n (Err e ∷ rs) answers = fault_line n e ++ written (n + 1) rs answers
written n (Ok c ∷ rs) [] = []
written n (Ok c ∷ rs) (a ∷ answers) = answer_line n a ++ written (n + 1) rs answers
