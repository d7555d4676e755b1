-- The numbers of a line, read one by one.
use Rattle.std.proofs.Common.{◌≡◌, ℕ, suc, true, List, [], ◌∷◌, ◌++◌, length, sym, refl, ap, ◌∙◌, arith}
use Rattle.std.specs.List.{AllByRecursion}
use Rattle.std.proofs.ByRecursion.{All-weaker}
use Rattle.std.proofs.lemmas.Bool.Decides.{nat_tests}
use Rattle.commands.specs.Text.{differs}
use Rattle.commands.specs.Numbers.{is_digit, IsNumeral}
use Rattle.commands.specs.Parts.{Spaceless, Stops}
use Rattle.commands.specs.Grammar.{spaced}
use Rattle.commands.specs.Reading.{NoNumber, NoNumbers, SpacedNumber}
use Rattle.commands.specs.declared.tokens.Numeral.{Numeral}
use Rattle.commands.proofs.Spaces.{apart}

filled : (xs : List ℕ) → (length xs ≡ 0 → ⊥) → xs ≡ [] → ⊥
filled xs some e = some (ap length e)

pub head : (b c : ℕ) (xs ys : List ℕ) → b ∷ xs ≡ c ∷ ys → b ≡ c
head b c xs ys e = cc

pub tail : (b c : ℕ) (xs ys : List ℕ) → b ∷ xs ≡ c ∷ ys → xs ≡ ys
tail b c xs ys e = cc

-- a digit is no space
digit_differs : (d : ℕ) → is_digit d ≡ true → differs 32 d ≡ true
digit_differs d h = grind (arith, nat_tests)

pub numeral_spaceless : (n : List ℕ) → IsNumeral n → Spaceless n
numeral_spaceless n h = All-weaker (λ d. is_digit d ≡ true) (λ d. differs 32 d ≡ true) digit_differs n h.1

pub spaced_stops : (ns : List (List ℕ)) → Stops (spaced ns)
spaced_stops [] = refl
spaced_stops (n ∷ ns) = refl

pub no_first : (k : ℕ) (text : List ℕ) → (length text ≡ 0 → ⊥) → NoNumber text → NoNumbers k text
no_first k text some none [] few num e = filled text some e
no_first k text some none (n ∷ ns) few num e = none n (spaced ns) num.0 (spaced_stops ns) e

pub no_end : (text : List ℕ) → (length text ≡ 0 → ⊥) → NoNumbers 0 text
no_end text some [] few num e = filled text some e
no_end text some (n ∷ ns) few num e = omega arith

pub no_more : (k : ℕ) (text : List ℕ) (a : Numeral) (rest : List ℕ) → SpacedNumber text a rest → NoNumbers k rest → NoNumbers (suc k) text
no_more k text a rest f none [] few num e = cc (f.whole)
no_more k text a rest f none (m ∷ ms) few num e =
    let same : a.digits.now ++ rest ≡ m ++ spaced ms = tail _ _ _ _ (sym f.whole ∙ e) in
    none ms (omega arith) num.1
    (apart a.digits.now m rest (spaced ms) (numeral_spaceless _ f.valued.0) (numeral_spaceless m num.0) f.stops (spaced_stops ms) same).1

-- a text is made of numbers in one way
pub spaced_same : (ns ms : List (List ℕ)) → AllByRecursion IsNumeral ns → AllByRecursion IsNumeral ms → spaced ns ≡ spaced ms → ns ≡ ms
spaced_same [] [] p q e = refl
spaced_same [] (m ∷ ms) p q e = cc
spaced_same (n ∷ ns) [] p q e = cc
spaced_same (n ∷ ns) (m ∷ ms) p q e =
    let both = apart n m (spaced ns) (spaced ms) (numeral_spaceless n p.0) (numeral_spaceless m q.0) (spaced_stops ns) (spaced_stops ms) (tail _ _ _ _ e) in
    let others = spaced_same ns ms p.1 q.1 both.1 in
    ap (λ v. v ∷ ns) both.0 ∙ ap (λ v. m ∷ v) others
