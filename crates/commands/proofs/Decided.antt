-- What `decided` gives is what the line stands for.
use Rattle.std.proofs.Common.{◌≡◌, ℕ, ◌<◌, ◌≤◌, Bool, true, false, cond, eqb, List, [], ◌∷◌, length, SomeIff, Some, None, Ok, Err, Option, Result, sym, refl, ap, ◌∙◌, subst, inl, inr, arith, eqb-true}
use Rattle.std.proofs.lemmas.List.{length-map}
use Rattle.std.specs.Option.{ok_or}
use borrow.Author.Tests.{eqb-false}
use Rattle.std.specs.List.{AllByRecursion}
use Rattle.calls.specs.declared.Call.{Call}
use Rattle.calls.specs.declared.Call.TheVariants.{Name, Build, Close, Reopen, Ask, Tally, Replan}
use Rattle.commands.specs.Numbers.{IsNumeral, value_of}
use Rattle.commands.specs.Parts.{Valued}
use Rattle.commands.specs.Grammar.{letter_of, numbers_of, spaced, Spells}
use Rattle.commands.specs.Outcome.{Outcome}
use Rattle.commands.specs.Reading.{Follow, NoNumbers, small_of, call_one, call_two, decided}
use Rattle.commands.specs.declared.tokens.Numeral.{Numeral}
use Rattle.commands.specs.declared.command.Numbers.{Numbers}
use Rattle.commands.specs.declared.command.Numbers.TheVariants.{Zero, One, Two}
use Rattle.commands.specs.declared.command.LineFault.{LineFault}
use Rattle.commands.specs.declared.command.LineFault.TheVariants.{NoForm, TooLarge}
use Rattle.commands.proofs.Shapes.{spaced_same, head, tail}

-- no call has this letter and as many numbers
abbrev NoCall : ℕ → ℕ → Type 0
NoCall b k = (c : Call) → b ≡ letter_of c → length (numbers_of c) ≡ k → ⊥

few : (c : Call) → length (numbers_of c) ≤ 2
few Build = omega arith
few (Name v) = omega arith
few (Close v) = omega arith
few (Reopen v) = omega arith
few Tally = omega arith
few Replan = omega arith
few (Ask s t) = omega arith

-- the line has the form of the numbers ns, and no call has them
no_form : (b : ℕ) (ns : List (List ℕ)) (rest : List ℕ) → AllByRecursion IsNumeral ns → rest ≡ spaced ns → NoCall b (length ns) → Outcome (b ∷ rest) (Err NoForm)
no_form b ns rest num is none c ms s =
    let same = spaced_same ns ms num s.numerals (sym is ∙ tail _ _ _ _ s.bytes) in
    none c (head _ _ _ _ s.bytes) (sym (ap length s.values) ∙ length-map ms value_of ∙ ap length (sym same))

-- the value of a number is small, or its digits are refused
data Sized (a : Numeral) : Result ℕ LineFault → Type 0 where
  fits : value_of a.digits.now ≤ 65535 → Sized a (Ok (value_of a.digits.now))
  large : 65535 < value_of a.digits.now → Sized a (Err (TooLarge a.digits))

sized : (a : Numeral) → Valued a → Sized a (small_of a)
sized a is = go a.value is.1
  where
    go : (r : Option ℕ) → SomeIff r (value_of a.digits.now ≤ 65535) (value_of a.digits.now) → Sized a (ok_or r (TooLarge a.digits))
    go (Some n) h = subst (λ k. Sized a (Ok k)) (sym h.1) (fits h.0)
    go None h = large (omega (arith, h))

-- a call without numbers
bare : (b : ℕ) (rest : List ℕ) (c : Call) → rest ≡ [] → b ≡ letter_of c → numbers_of c ≡ [] → Outcome (b ∷ rest) (Ok c)
bare b rest c is l v = ([], (record { numerals = tt; bytes = ap (λ r. b ∷ r) is ∙ ap (λ x. x ∷ []) l; values = sym v }, tt))

zero_case : (b : ℕ) (rest : List ℕ) → rest ≡ [] → (t u w : Bool) → eqb b 66 ≡ t → eqb b 78 ≡ u → eqb b 80 ≡ w → Outcome (b ∷ rest) (cond t (Ok Build) (cond u (Ok Tally) (cond w (Ok Replan) (Err NoForm))))
zero_case b rest is true u w e f g = bare b rest Build is (eqb-true b 66 e) refl
zero_case b rest is false true w e f g = bare b rest Tally is (eqb-true b 78 f) refl
zero_case b rest is false false true e f g = bare b rest Replan is (eqb-true b 80 g) refl
zero_case b rest is false false false e f g = no_form b [] rest tt is none
  where
    none : NoCall b 0
    none Build l k = eqb-false b 66 e l
    none Tally l k = eqb-false b 78 f l
    none Replan l k = eqb-false b 80 g l
    none (Name v) l k = omega arith
    none (Close v) l k = omega arith
    none (Reopen v) l k = omega arith
    none (Ask s t) l k = omega arith

-- a call of one number
single : (b : ℕ) (rest : List ℕ) (a : Numeral) (f : ℕ → Call) → Valued a → rest ≡ spaced (a.digits.now ∷ []) → b ≡ letter_of (f (value_of a.digits.now)) → numbers_of (f (value_of a.digits.now)) ≡ value_of a.digits.now ∷ [] → Outcome (b ∷ rest) (call_one f (small_of a))
single b rest a f v is l r = go (small_of a) (sized a v)
  where
    spells : Spells (f (value_of a.digits.now)) (a.digits.now ∷ []) (b ∷ rest)
    spells = record { numerals = (v.0, tt); bytes = ap (λ l. b ∷ l) is ∙ ap (λ x. x ∷ spaced (a.digits.now ∷ [])) l; values = sym r }

    go : (r : Result ℕ LineFault) → Sized a r → Outcome (b ∷ rest) (call_one f r)
    go (Ok w) (fits low) = (a.digits.now ∷ [], (spells, (low, tt)))
    go (Err d) (large high) = (f (value_of a.digits.now), a.digits.now ∷ [], (spells, inl (high, refl)))

one_case : (b : ℕ) (rest : List ℕ) (a : Numeral) → Valued a → rest ≡ spaced (a.digits.now ∷ []) → (t u w : Bool) → eqb b 84 ≡ t → eqb b 67 ≡ u → eqb b 82 ≡ w → Outcome (b ∷ rest) (cond t (call_one Name (small_of a)) (cond u (call_one Close (small_of a)) (cond w (call_one Reopen (small_of a)) (Err NoForm))))
one_case b rest a v is true u w e f g = single b rest a Name v is (eqb-true b 84 e) refl
one_case b rest a v is false true w e f g = single b rest a Close v is (eqb-true b 67 f) refl
one_case b rest a v is false false true e f g = single b rest a Reopen v is (eqb-true b 82 g) refl
one_case b rest a v is false false false e f g = no_form b (a.digits.now ∷ []) rest (v.0, tt) is none
  where
    none : NoCall b 1
    none Build l k = omega arith
    none Tally l k = omega arith
    none Replan l k = omega arith
    none (Name v) l k = eqb-false b 84 e l
    none (Close v) l k = eqb-false b 67 f l
    none (Reopen v) l k = eqb-false b 82 g l
    none (Ask s t) l k = omega arith

two_case : (b : ℕ) (rest : List ℕ) (x y : Numeral) → Valued x → Valued y → rest ≡ spaced (x.digits.now ∷ y.digits.now ∷ []) → (t : Bool) → eqb b 81 ≡ t → Outcome (b ∷ rest) (cond t (call_two (small_of x) (small_of y)) (Err NoForm))
two_case b rest x y v w is true e = go (small_of x) (small_of y) (sized x v) (sized y w)
  where
    spells : Spells (Ask (value_of x.digits.now) (value_of y.digits.now)) (x.digits.now ∷ y.digits.now ∷ []) (b ∷ rest)
    spells = record { numerals = (v.0, (w.0, tt)); bytes = ap (λ l. b ∷ l) is ∙ ap (λ z. z ∷ spaced (x.digits.now ∷ y.digits.now ∷ [])) (eqb-true b 81 e); values = refl }

    go : (r q : Result ℕ LineFault) → Sized x r → Sized y q → Outcome (b ∷ rest) (call_two r q)
    go (Ok r) (Ok q) (fits low) (fits low') = (x.digits.now ∷ y.digits.now ∷ [], (spells, (low, (low', tt))))
    go (Ok r) (Err q) (fits low) (large high) = (Ask (value_of x.digits.now) (value_of y.digits.now), x.digits.now ∷ y.digits.now ∷ [], (spells, inr (low, inl (high, refl))))
    go (Err r) q (large high) s = (Ask (value_of x.digits.now) (value_of y.digits.now), x.digits.now ∷ y.digits.now ∷ [], (spells, inl (high, refl)))
two_case b rest x y v w is false e = no_form b (x.digits.now ∷ y.digits.now ∷ []) rest (v.0, (w.0, tt)) is none
  where
    none : NoCall b 2
    none Build l k = omega arith
    none Tally l k = omega arith
    none Replan l k = omega arith
    none (Name v) l k = omega arith
    none (Close v) l k = omega arith
    none (Reopen v) l k = omega arith
    none (Ask s t) l k = eqb-false b 81 e l

-- a line of the letter b and the numbers that follow it
pub outcome : (b : ℕ) (rest : List ℕ) (a : Numbers) → Follow rest a → Outcome (b ∷ rest) (decided b a)
outcome b rest Zero h = zero_case b rest h (eqb b 66) (eqb b 78) (eqb b 80) refl refl refl
outcome b rest (One a) h = one_case b rest a h.0 h.1 (eqb b 84) (eqb b 67) (eqb b 82) refl refl refl
outcome b rest (Two x y) h = two_case b rest x y h.0 h.1 h.2 (eqb b 81) refl

-- a line whose letter no numbers of a call follow
pub unnumbered : (b : ℕ) (rest : List ℕ) → NoNumbers 2 rest → Outcome (b ∷ rest) (Err NoForm)
unnumbered b rest h c ms s = h ms (omega (arith, few c, ap length s.values, length-map ms value_of)) s.numerals (tail _ _ _ _ s.bytes)
