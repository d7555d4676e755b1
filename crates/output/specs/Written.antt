-- The written form of answers and refusals, and what a put does.
use Rattle.std.specs.Prelude.{◌≡◌, ℕ, ◌+◌, ◌<◌, ◌≤◌, List, ◌++◌, length, codes, decimal}
use Rattle.std.specs.List.{flat_map}
use denote.Ref.{Bor}
use Rattle.calls.specs.Faults.{number_of}
use Rattle.calls.specs.declared.Answer.{Answer}
use Rattle.calls.specs.declared.Answer.TheVariants.{Done, Length, NoWay, Count, Refused}
use Rattle.commands.specs.declared.command.LineFault.{LineFault}
use Rattle.commands.specs.declared.command.LineFault.TheVariants.{NoForm, TooLarge}
use Rattle.output.specs.Room.{room, line_room}

-- the line of a refusal: the number of the command line, and the refusal's own
abbrev pub refusal_line : ℕ → ℕ → List ℕ
refusal_line line number = codes "refused " ++ (decimal line ++ (codes " " ++ (decimal number ++ codes "\n")))

-- the line of an answer to the call of a command line
abbrev pub answer_line : ℕ → Answer → List ℕ
answer_line line Done = codes "ok\n"
answer_line line (Length l r) = codes "length " ++ (decimal l ++ (codes " redone " ++ (decimal r ++ codes "\n")))
answer_line line (NoWay r) = codes "no way redone " ++ (decimal r ++ codes "\n")
answer_line line (Count k) = codes "tally " ++ (decimal k ++ codes "\n")
answer_line line (Refused f) = refusal_line line (number_of f)

-- the line of a command line that is no call; after 52 stand the digits as written
abbrev pub fault_line : ℕ → LineFault → List ℕ
fault_line line NoForm = refusal_line line 51
fault_line line (TooLarge d) = codes "refused " ++ (decimal line ++ (codes " 52 " ++ (d.now ++ codes "\n")))

-- the bytes of all parts, one after another
abbrev pub joined : List (Bor (List ℕ)) → List ℕ
joined parts = flat_map (λ part. part.now) parts

-- a line with this many copied digits is put at the end, if room is left for the longest such line
pub record Put (old new : List ℕ) (digits : ℕ) (line : List ℕ) : Type 0 where
  pub added : length old + (line_room + digits) ≤ room → new ≡ old ++ line
  pub full : room < length old + (line_room + digits) → new ≡ old
  pub grows : length new ≤ length old + (line_room + digits)
