-- What is printed for the bytes of a map file and a command text.
use Rattle.std.specs.Prelude.{◌≡◌, ℕ, ◌<◌, ◌≤◌, Bool, cond, List, ◌∷◌, length, take, ◌==◌}
use Rattle.maps.specs.Graph.{Graph}
use Rattle.formats.specs.Bytes.{byte_at, Bytes}
use Rattle.sheet.specs.Layout.{sheet_graph}
use Rattle.sheet.specs.Refusal.{refusal as sheet_refusal}
use Rattle.block.specs.Layout.{block_graph}
use Rattle.block.specs.Refusal.{refusal as block_refusal}
use Rattle.lengths.specs.Kinds.{Kind, paces, gates}
use Rattle.calls.specs.Moments.{created}
use Rattle.calls.specs.Lives.{Life}
use Rattle.calls.specs.declared.Answer.{Answer}
use Rattle.commands.specs.Text.{lines_of}
use Rattle.commands.specs.Words.{word, fault_number, Faulty}
use Rattle.commands.specs.declared.opening.KindWord.{KindWord}
use Rattle.commands.specs.declared.opening.KindWord.TheVariants.{Paces, Gates}
use Rattle.commands.specs.declared.opening.TextFault.{TextFault}
use Rattle.output.specs.Written.{refusal_line}
use Rattle.session.specs.Readings.{Reading, Readings, calls_of, written}

-- the command lines after the word are read, the calls among them live one life over the map, and this is printed; the first of them is line 2
pub record Answered (K : Kind) (G : Graph) (lines : List (List ℕ)) (bytes : List ℕ) : Type 0 where
  pub readings : List Reading
  pub answers : List Answer
  pub read : Readings lines readings
  pub life : Life K G created (calls_of readings) answers
  pub text : bytes ≡ written 2 readings answers

-- the kind of length that a word names
abbrev pub kind_of : KindWord → Kind
kind_of Paces = paces
kind_of Gates = gates

-- what a text prints over a map: its own refusal, in line 1, or the answers of its command lines
pub data PrintsText (G : Graph) (text : List ℕ) : List ℕ → Type 0 where
  faulty : (e : TextFault) → Faulty text e → PrintsText G text (refusal_line 1 (fault_number e))
  answered : (k : KindWord) (lines : List (List ℕ)) (bytes : List ℕ) → length text ≤ 4096 → lines_of text ≡ word k ∷ lines
      → Answered (kind_of k) G lines bytes → PrintsText G text bytes

-- what a text prints over a map file that is refused with this number, or says this map where the number is 0; the line of such a refusal is 0
pub data PrintsOver (refusal : ℕ) (G : Graph) (text : List ℕ) : List ℕ → Type 0 where
  unopened : 0 < refusal → PrintsOver refusal G text (refusal_line 0 refusal)
  opened : (bytes : List ℕ) → refusal ≡ 0 → PrintsText G text bytes → PrintsOver refusal G text bytes

-- the bytes of a map file that count: the first 5,637
abbrev pub counted : List ℕ → List ℕ
counted map = take 5637 map

-- a first byte hex 47 means a block, any other byte or none a sheet
abbrev pub is_block : List ℕ → Bool
is_block map = byte_at map 0 == 0x47

-- what is printed for the bytes of a map file and a command text
abbrev pub Prints : List ℕ → List ℕ → List ℕ → Type 0
Prints map text bytes =
    cond (is_block (counted map))
    (PrintsOver (block_refusal (counted map)) (block_graph (counted map)) text bytes)
    (PrintsOver (sheet_refusal (counted map)) (sheet_graph (counted map)) text bytes)

-- for all bytes and every text one text is printed, and no other
abbrev pub PrintsOnce : Type 0
PrintsOnce = (map text first second : List ℕ) → Bytes map → Prints map text first → Prints map text second → first ≡ second
