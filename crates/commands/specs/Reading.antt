-- The steps in which a line is read: the numbers behind its letter, and the call of both.
use Rattle.std.specs.Prelude.{◌≡◌, ℕ, ◌≤◌, cond, List, [], ◌∷◌, ◌++◌, length, Ok, Err, Result, ◌==◌, ◌≢◌}
use Rattle.std.specs.Option.{ok_or}
use Rattle.std.specs.List.{AllByRecursion}
use Rattle.calls.specs.declared.Call.{Call}
use Rattle.calls.specs.declared.Call.TheVariants.{Name, Build, Close, Reopen, Ask, Tally, Replan}
use Rattle.commands.specs.Numbers.{IsNumeral}
use Rattle.commands.specs.Parts.{Valued, Stops}
use Rattle.commands.specs.Grammar.{spaced}
use Rattle.commands.specs.declared.tokens.Numeral.{Numeral}
use Rattle.commands.specs.declared.command.Numbers.{Numbers}
use Rattle.commands.specs.declared.command.Numbers.TheVariants.{Zero, One, Two}
use Rattle.commands.specs.declared.command.LineFault.{LineFault}
use Rattle.commands.specs.declared.command.LineFault.TheVariants.{NoForm, TooLarge}

-- the text does not begin with a space and a number that ends there
abbrev pub NoNumber : List ℕ → Type 0
NoNumber text = (n rest : List ℕ) → IsNumeral n → Stops rest → text ≢ 32 ∷ (n ++ rest)

-- the text begins with a space and the number n, and rest follows
pub record SpacedNumber (text : List ℕ) (n : Numeral) (rest : List ℕ) : Type 0 where
  pub valued : Valued n
  pub whole : text ≡ 32 ∷ (n.digits.now ++ rest)
  pub stops : Stops rest

-- the text consists of these numbers, each after one space
abbrev pub Follow : List ℕ → Numbers → Type 0
Follow text Zero = text ≡ []
Follow text (One a) = Valued a × (text ≡ spaced (a.digits.now ∷ []))
Follow text (Two a b) = Valued a × Valued b × (text ≡ spaced (a.digits.now ∷ b.digits.now ∷ []))

-- the text does not consist of at most k numbers, each after one space
abbrev pub NoNumbers : ℕ → List ℕ → Type 0
NoNumbers k text = (ns : List (List ℕ)) → length ns ≤ k → AllByRecursion IsNumeral ns → text ≢ spaced ns

-- the value where it is small enough
abbrev pub small_of : Numeral → Result ℕ LineFault
small_of n = ok_or n.value (TooLarge n.digits)

-- a call of one number
abbrev pub call_one : (ℕ → Call) → Result ℕ LineFault → Result Call LineFault
call_one f (Ok v) = Ok (f v)
call_one f (Err e) = Err e

-- a call of two numbers
abbrev pub call_two : Result ℕ LineFault → Result ℕ LineFault → Result Call LineFault
call_two (Err e) t = Err e
call_two (Ok s) (Err e) = Err e
call_two (Ok s) (Ok t) = Ok (Ask s t)

-- the call of a letter and its numbers
abbrev pub decided : ℕ → Numbers → Result Call LineFault
decided b Zero = cond (b == 66) (Ok Build) (cond (b == 78) (Ok Tally) (cond (b == 80) (Ok Replan) (Err NoForm)))
decided b (One v) = cond (b == 84) (call_one Name (small_of v)) (cond (b == 67) (call_one Close (small_of v)) (cond (b == 82) (call_one Reopen (small_of v)) (Err NoForm)))
decided b (Two s t) = cond (b == 81) (call_two (small_of s) (small_of t)) (Err NoForm)
