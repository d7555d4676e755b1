-- The first token of a line that spells a call is the call's letter.
use Rattle.std.proofs.Common.{◌≡◌, ℕ, true, false, List, [], ◌∷◌, ◌++◌, length, get_or, Err, Result, sym, refl, ap, ◌∙◌, subst, arith}
use Rattle.calls.specs.declared.Call.{Call}
use Rattle.calls.specs.declared.Call.TheVariants.{Name, Build, Close, Reopen, Ask, Tally, Replan}
use Rattle.commands.specs.Numbers.{is_digit, IsNumeral}
use Rattle.commands.specs.Parts.{Spaceless, Front, bytes_of}
use Rattle.commands.specs.Grammar.{letter_of, spaced, Spells}
use Rattle.commands.specs.Outcome.{Outcome}
use Rattle.commands.specs.declared.command.LineFault.{LineFault}
use Rattle.commands.specs.declared.command.LineFault.TheVariants.{NoForm}
use Rattle.commands.specs.declared.tokens.Token.{Token}
use Rattle.commands.proofs.Spaces.{apart}
use Rattle.commands.proofs.Shapes.{spaced_stops}

letter_spaceless : (c : Call) → Spaceless (letter_of c ∷ [])
letter_spaceless (Name v) = (refl, tt)
letter_spaceless Build = (refl, tt)
letter_spaceless (Close e) = (refl, tt)
letter_spaceless (Reopen e) = (refl, tt)
letter_spaceless (Ask s t) = (refl, tt)
letter_spaceless Tally = (refl, tt)
letter_spaceless Replan = (refl, tt)

letter_no_digit : (c : Call) → is_digit (letter_of c) ≡ false
letter_no_digit (Name v) = refl
letter_no_digit Build = refl
letter_no_digit (Close e) = refl
letter_no_digit (Reopen e) = refl
letter_no_digit (Ask s t) = refl
letter_no_digit Tally = refl
letter_no_digit Replan = refl

module _ (line : List ℕ) (t : Token) (rest : List ℕ) (f : Front line t rest) where
  lettered : (c : Call) (ns : List (List ℕ)) → Spells c ns line → bytes_of t ≡ letter_of c ∷ []
  lettered c ns s = (apart (bytes_of t) (letter_of c ∷ []) rest (spaced ns) f.parted.spaceless (letter_spaceless c) f.parted.stops (spaced_stops ns) (sym f.parted.whole ∙ s.bytes)).0

  -- a line that begins with a number has no form
  pub number_first : IsNumeral (bytes_of t) → Outcome line (Err NoForm)
  number_first num c ns s =
      let one : is_digit (letter_of c) ≡ true = (subst IsNumeral (lettered c ns s) num).1.0 in
      let none = letter_no_digit c in
      let z : ◌≡◌ {A = ℕ} 0 1 = cc in
      omega arith

  -- nor has one whose first token is not one byte
  pub no_letter : (length (bytes_of t) ≡ 1 → ⊥) → Outcome line (Err NoForm)
  no_letter other c ns s = other (ap length (lettered c ns s))

  -- a line that begins with one byte stands for what that byte and the rest stand for
  pub letter_first : length (bytes_of t) ≡ 1 → (r : Result Call LineFault) → Outcome (get_or (bytes_of t) 0 0 ∷ rest) r → Outcome line r
  letter_first is r told = subst (λ l. Outcome l r) (sym (f.parted.whole ∙ ap (λ w. w ++ rest) (one_byte (bytes_of t) is))) told
    where
      one_byte : (w : List ℕ) → length w ≡ 1 → w ≡ get_or w 0 0 ∷ []
      one_byte [] h = absurd (omega arith)
      one_byte (b ∷ []) h = refl
      one_byte (b ∷ d ∷ w) h = absurd (omega arith)
