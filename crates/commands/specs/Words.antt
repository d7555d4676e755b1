-- The words of the first line, and when a text is refused.
use Rattle.std.specs.Prelude.{◌≡◌, ℕ, ◌<◌, ◌≤◌, List, ◌∷◌, length, Some, None, codes, Option, ◌≢◌}
use Rattle.commands.specs.Text.{lines_of}
use Rattle.commands.specs.declared.opening.KindWord.{KindWord}
use Rattle.commands.specs.declared.opening.KindWord.TheVariants.{Paces, Gates}
use Rattle.commands.specs.declared.opening.TextFault.{TextFault}
use Rattle.commands.specs.declared.opening.TextFault.TheVariants.{TooLong, NoKind}

-- the word that stands for a kind of length
abbrev pub word : KindWord → List ℕ
word Paces = codes "paces"
word Gates = codes "gates"

-- the line is the word of this kind, or of none
abbrev pub Names : List ℕ → Option KindWord → Type 0
Names line None = (k : KindWord) → line ≢ word k
Names line (Some k) = line ≡ word k

-- the number of a refusal of the text
abbrev pub fault_number : TextFault → ℕ
fault_number TooLong = 55
fault_number NoKind = 54

-- the text has at most 4,096 bytes, its first line is the word of the kind k, and rest holds the other lines
pub record Begins (text : List ℕ) (k : KindWord) (rest : List ℕ) : Type 0 where
  pub size : length text ≤ 4096
  pub lines : lines_of text ≡ word k ∷ lines_of rest
  pub less : length rest < length text

-- the text is refused: it is longer than 4,096 bytes, or else its first line is the word of no kind, or missing
abbrev pub Faulty : List ℕ → TextFault → Type 0
Faulty text TooLong = 4096 < length text
Faulty text NoKind = (length text ≤ 4096) × ((k : KindWord) (ls : List (List ℕ)) → lines_of text ≢ word k ∷ ls)
