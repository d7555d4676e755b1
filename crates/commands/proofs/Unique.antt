-- A line spells one call, with one list of numbers; so each answer is given on its condition.
use Rattle.std.proofs.Common.{◌≡◌, ℕ, ◌≤◌, cond, eqb, List, [], ◌∷◌, map, length, get_or, Ok, Err, Result, sym, refl, ap, ◌∙◌, subst, inl, inr, arith, length-append}
use Rattle.calls.specs.declared.Call.{Call}
use Rattle.calls.specs.declared.Call.TheVariants.{Name, Build, Close, Reopen, Ask, Tally, Replan}
use Rattle.commands.specs.Numbers.{value_of}
use Rattle.commands.specs.Grammar.{letter_of, numbers_of, spaced, AllSmall, FirstLarge}
use Rattle.commands.specs.Outcome.{Outcome, Exact, Within, OneReading}
use Rattle.commands.specs.declared.command.LineFault.{LineFault}
use Rattle.commands.specs.declared.command.LineFault.TheVariants.{NoForm, TooLarge}
use Rattle.commands.proofs.Shapes.{spaced_same, head, tail}

-- the call of a letter and its numbers
abbrev call_of : ℕ → List ℕ → Call
call_of b vs = cond (eqb b 84) (Name (get_or vs 0 0)) (cond (eqb b 66) Build (cond (eqb b 67) (Close (get_or vs 0 0)) (cond (eqb b 82) (Reopen (get_or vs 0 0)) (cond (eqb b 81) (Ask (get_or vs 0 0) (get_or vs 1 0)) (cond (eqb b 78) Tally Replan)))))

call_back : (c : Call) → call_of (letter_of c) (numbers_of c) ≡ c
call_back (Name v) = refl
call_back Build = refl
call_back (Close e) = refl
call_back (Reopen e) = refl
call_back (Ask s t) = refl
call_back Tally = refl
call_back Replan = refl

pub one_reading : OneReading
one_reading line c d ns ms p q =
    let e : letter_of c ∷ spaced ns ≡ letter_of d ∷ spaced ms = sym p.bytes ∙ q.bytes in
    let same = spaced_same ns ms p.numerals q.numerals (tail _ _ _ _ e) in
    let values : numbers_of c ≡ numbers_of d = sym p.values ∙ ap (map value_of) same ∙ q.values in
    (sym (call_back c) ∙ ap (λ b. call_of b (numbers_of c)) (head _ _ _ _ e) ∙ ap (call_of (letter_of d)) values ∙ call_back d, same)

not_both : (ns : List (List ℕ)) (d : List ℕ) → AllSmall ns → FirstLarge ns d → ⊥
not_both [] d small large = large
not_both (n ∷ ns) d small (inl h) = omega (arith, small.0, h.0)
not_both (n ∷ ns) d small (inr h) = not_both ns d small.1 h.1

same_first : (ns : List (List ℕ)) (d e : List ℕ) → FirstLarge ns d → FirstLarge ns e → d ≡ e
same_first [] d e p q = absurd p
same_first (n ∷ ns) d e (inl p) (inl q) = p.1 ∙ sym q.1
same_first (n ∷ ns) d e (inl p) (inr q) = absurd (omega (arith, p.0, q.0))
same_first (n ∷ ns) d e (inr p) (inl q) = absurd (omega (arith, p.0, q.0))
same_first (n ∷ ns) d e (inr p) (inr q) = same_first ns d e p.1 q.1

pub exact : (line : List ℕ) (r : Result Call LineFault) → Outcome line r → Exact line r
exact line (Ok c) h = record {
  accepted = λ d ms s small. ap Ok (one_reading line c d h.0 ms h.1.0 s).0;
  large = λ d ms f s first. not_both ms f (subst AllSmall (one_reading line c d h.0 ms h.1.0 s).1 h.1.1) first;
  formless = λ none. absurd (none c h.0 h.1.0);
}
exact line (Err (TooLarge e)) h = record {
  accepted = λ d ms s small. absurd (not_both ms e.now small (subst (λ l. FirstLarge l e.now) (one_reading line h.0 d h.1 ms h.2.0 s).1 h.2.1));
  large = λ d ms f s first. same_first ms e.now f (subst (λ l. FirstLarge l e.now) (one_reading line h.0 d h.1 ms h.2.0 s).1 h.2.1) first;
  formless = λ none. absurd (none h.0 h.1 h.2.0);
}
exact line (Err NoForm) h = record {
  accepted = λ d ms s small. absurd (h d ms s);
  large = λ d ms f s first. h d ms s;
  formless = λ none. refl;
}

first_within : (ns : List (List ℕ)) (d : List ℕ) → FirstLarge ns d → length d ≤ length (spaced ns)
first_within [] d h = absurd h
first_within (n ∷ ns) d (inl h) = omega (arith, ap length h.1, length-append n (spaced ns))
first_within (n ∷ ns) d (inr h) = omega (arith, first_within ns d h.1, length-append n (spaced ns))

pub within : (line : List ℕ) (r : Result Call LineFault) → Outcome line r → Within line r
within line (Ok c) h = tt
within line (Err (TooLarge d)) h = omega (arith, first_within h.1 d.now h.2.1, ap length h.2.0.bytes)
within line (Err NoForm) h = omega arith
