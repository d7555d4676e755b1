-- What a line stands for: a call, or a refusal with its number.
use Rattle.std.specs.Prelude.{◌≡◌, ℕ, ◌≤◌, List, [], length, Ok, Err, Result}
use Rattle.calls.specs.declared.Call.{Call}
use Rattle.commands.specs.Grammar.{Spells, AllSmall, FirstLarge}
use Rattle.commands.specs.declared.command.LineFault.{LineFault}
use Rattle.commands.specs.declared.command.LineFault.TheVariants.{NoForm, TooLarge}

-- the number of a refusal of a line
abbrev pub line_fault_number : LineFault → ℕ
line_fault_number NoForm = 51
line_fault_number (TooLarge d) = 52

-- the digits that are printed with a refusal of a line
abbrev pub printed_digits : LineFault → List ℕ
printed_digits NoForm = []
printed_digits (TooLarge d) = d.now

-- a call that the line spells with small numbers; or the first number above 65,535 of a call that it spells; or no form spells it
abbrev pub Outcome : List ℕ → Result Call LineFault → Type 0
Outcome line (Ok c) = (ns : List (List ℕ)) × (Spells c ns line × AllSmall ns)
Outcome line (Err (TooLarge d)) = (c : Call) × (ns : List (List ℕ)) × (Spells c ns line × FirstLarge ns d.now)
Outcome line (Err NoForm) = (c : Call) (ns : List (List ℕ)) → Spells c ns line → ⊥

-- the line is refused with 52 and these digits
abbrev pub RefusedLarge : Result Call LineFault → List ℕ → Type 0
RefusedLarge (Ok c) d = ⊥
RefusedLarge (Err NoForm) d = ⊥
RefusedLarge (Err (TooLarge e)) d = e.now ≡ d

-- each answer is given whenever its condition holds
pub record Exact (line : List ℕ) (r : Result Call LineFault) : Type 0 where
  pub accepted : (c : Call) (ns : List (List ℕ)) → Spells c ns line → AllSmall ns → r ≡ Ok c
  pub large : (c : Call) (ns : List (List ℕ)) (d : List ℕ) → Spells c ns line → FirstLarge ns d → RefusedLarge r d
  pub formless : ((c : Call) (ns : List (List ℕ)) → Spells c ns line → ⊥) → r ≡ Err NoForm

-- the digits of a refusal are no longer than the line
abbrev pub Within : List ℕ → Result Call LineFault → Type 0
Within line (Ok c) = Unit {0}
Within line (Err e) = length (printed_digits e) ≤ length line

-- a line spells at most one call, with one list of numbers as written
abbrev pub OneReading : Type 0
OneReading = (line : List ℕ) (c d : Call) (ns ms : List (List ℕ)) → Spells c ns line → Spells d ms line → (c ≡ d) × (ns ≡ ms)
