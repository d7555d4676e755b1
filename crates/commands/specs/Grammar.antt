-- The grammar of command lines: a letter, then each number after one space.
use Rattle.std.specs.Prelude.{◌≡◌, ℕ, ◌<◌, ◌≤◌, ◌⊎◌, List, [], ◌∷◌, ◌++◌, map}
use Rattle.std.specs.List.{AllByRecursion}
use Rattle.calls.specs.declared.Call.{Call}
use Rattle.calls.specs.declared.Call.TheVariants.{Name, Build, Close, Reopen, Ask, Tally, Replan}
use Rattle.commands.specs.Numbers.{IsNumeral, value_of}

-- the letter of a call
abbrev pub letter_of : Call → ℕ
letter_of (Name v) = 84
letter_of Build = 66
letter_of (Close e) = 67
letter_of (Reopen e) = 82
letter_of (Ask s t) = 81
letter_of Tally = 78
letter_of Replan = 80

-- the numbers of a call, in the order of the line
abbrev pub numbers_of : Call → List ℕ
numbers_of (Name v) = v ∷ []
numbers_of Build = []
numbers_of (Close e) = e ∷ []
numbers_of (Reopen e) = e ∷ []
numbers_of (Ask s t) = s ∷ t ∷ []
numbers_of Tally = []
numbers_of Replan = []

-- each number, as written, after one space
abbrev pub spaced : List (List ℕ) → List ℕ
spaced [] = []
spaced (n ∷ ns) = 32 ∷ (n ++ spaced ns)

-- the line spells the call c, its numbers written as ns
pub record Spells (c : Call) (ns : List (List ℕ)) (line : List ℕ) : Type 0 where
  pub numerals : AllByRecursion IsNumeral ns
  pub bytes : line ≡ letter_of c ∷ spaced ns
  pub values : map value_of ns ≡ numbers_of c

-- each number is at most 65,535
abbrev pub AllSmall : List (List ℕ) → Type 0
AllSmall ns = AllByRecursion (λ n. value_of n ≤ 65535) ns

-- d is the first of the numbers that is above 65,535
abbrev pub FirstLarge : List (List ℕ) → List ℕ → Type 0
FirstLarge [] d = ⊥
FirstLarge (n ∷ ns) d = ((65535 < value_of n) × (d ≡ n)) ⊎ ((value_of n ≤ 65535) × FirstLarge ns d)
