-- The lines of a text.
use Rattle.std.specs.Prelude.{◌≡◌, ℕ, ◌+◌, ◌<◌, ◌≤◌, Bool, true, cond, not, ◌⊎◌, List, [], ◌∷◌, ◌++◌, length, ◌==◌}
use Rattle.std.specs.List.{prefix_len, AllByRecursion}

-- b in front of the first line
abbrev pub onto : ℕ → List (List ℕ) → List (List ℕ)
onto b [] = (b ∷ []) ∷ []
onto b (l ∷ ls) = (b ∷ l) ∷ ls

-- each line ends with byte 10, which is no part of it; a last line with at least one byte needs no end
abbrev pub lines_of : List ℕ → List (List ℕ)
lines_of [] = []
lines_of (b ∷ bs) = cond (b == 10) ([] ∷ lines_of bs) (onto b (lines_of bs))

-- b is another byte than stop
abbrev pub differs : ℕ → ℕ → Bool
differs stop b = not (b == stop)

-- how many bytes stand before the first stop, or in all where there is none
abbrev pub before : ℕ → List ℕ → ℕ
before stop bs = prefix_len (differs stop) bs

-- no byte ends a line
abbrev pub Endless : List ℕ → Type 0
Endless l = AllByRecursion (λ b. differs 10 b ≡ true) l

-- each line, followed by its end
abbrev pub ended : List (List ℕ) → List ℕ
ended [] = []
ended (l ∷ ls) = l ++ (10 ∷ ended ls)

-- what follows the last end is a line if it has a byte
abbrev pub last_line : List ℕ → List (List ℕ)
last_line [] = []
last_line (b ∷ l) = (b ∷ l) ∷ []

-- a text of ended lines and a last part has these lines; and every text is of this shape
pub record LinesStand : Type 0 where
  pub written : (ls : List (List ℕ)) (l : List ℕ) → AllByRecursion Endless ls → Endless l → lines_of (ended ls ++ l) ≡ ls ++ last_line l
  pub every : (text : List ℕ) → (ls : List (List ℕ)) × (l : List ℕ) × (AllByRecursion Endless ls × Endless l × (text ≡ ended ls ++ l))

-- the text begins with this line, without its end, and rest follows the end
pub record FirstLine (text line rest : List ℕ) : Type 0 where
  pub lines : lines_of text ≡ line ∷ lines_of rest
  pub within : length line + length rest ≤ length text
  pub less : length rest < length text

-- the line's end stands between the line and the rest, or the line is all of the text
abbrev pub CutAtEnd : List ℕ → List ℕ → List ℕ → Type 0
CutAtEnd text line rest = (text ≡ line ++ (10 ∷ rest)) ⊎ ((text ≡ line) × (rest ≡ []))
