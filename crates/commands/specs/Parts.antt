-- Which part of a line a token is.
use Rattle.std.specs.Prelude.{◌≡◌, ℕ, ◌≤◌, true, SomeIff, List, ◌++◌}
use Rattle.std.specs.List.{AllByRecursion}
use Rattle.commands.specs.Text.{differs, before}
use Rattle.commands.specs.Numbers.{IsNumeral, value_of}
use Rattle.commands.specs.declared.tokens.Numeral.{Numeral}
use Rattle.commands.specs.declared.tokens.Token.{Token}
use Rattle.commands.specs.declared.tokens.Token.TheVariants.{Word, Number}

-- the bytes of a token as they stand in the line
abbrev pub bytes_of : Token → List ℕ
bytes_of (Word w) = w.now
bytes_of (Number n) = n.digits.now

-- the digits are a number, and this is its value, if that is at most 65,535
abbrev pub Valued : Numeral → Type 0
Valued n = IsNumeral n.digits.now × SomeIff n.value (value_of n.digits.now ≤ 65535) (value_of n.digits.now)

-- a token is a number exactly if its bytes are one
abbrev pub Classed : Token → Type 0
Classed (Word w) = IsNumeral w.now → ⊥
Classed (Number n) = Valued n

-- no byte is a space
abbrev pub Spaceless : List ℕ → Type 0
Spaceless bs = AllByRecursion (λ b. differs 32 b ≡ true) bs

-- the text ends, or a space comes next
abbrev pub Stops : List ℕ → Type 0
Stops bs = before 32 bs ≡ 0

-- the text begins with this part up to a space or the end, and rest follows
pub record Parted (text part rest : List ℕ) : Type 0 where
  pub whole : text ≡ part ++ rest
  pub spaceless : Spaceless part
  pub stops : Stops rest

-- the text begins with this token, and rest follows
pub record Front (text : List ℕ) (t : Token) (rest : List ℕ) : Type 0 where
  pub parted : Parted text (bytes_of t) rest
  pub classed : Classed t
