-- The noted calls live a life; the answers in their places are printed: together, the lines are answered.
use Rattle.std.proofs.Common.{◌≡◌, ℕ, ◌+◌, ◌≤◌, min, List, [], ◌∷◌, ◌++◌, length, take, Ok, Err, Option, sym, refl, ap, ◌∙◌, subst, arith}
use Rattle.std.specs.Result.{result_ok}
use Rattle.maps.specs.Graph.{Graph}
use Rattle.lengths.specs.Kinds.{Kind}
use Rattle.calls.specs.Moments.{created}
use Rattle.calls.specs.Lives.{Life}
use Rattle.calls.specs.declared.Call.{Call}
use Rattle.calls.specs.declared.Answer.{Answer}
use Rattle.lives.specs.Lines.{common_front, with_call, calls_among, with_answer, answers_among}
use Rattle.commands.specs.Outcome.{Outcome}
use Rattle.output.specs.Written.{answer_line, fault_line}
use Rattle.session.specs.Readings.{Reading, Readings, calls_of, written}
use Rattle.session.specs.Steps.{AllNoted, line_for, Told}
use Rattle.session.specs.Prints.{Answered}
use Rattle.session.proofs.Same.{same_line}

abbrev calls : List (Option Call) → List Call
calls os = calls_among (λ o. o) os

abbrev answers_to : List (Option Call) → List Answer → List Answer
answers_to os places = answers_among (λ o. o) os places

-- readings whose calls are those noted, and which with the answers to these write the bytes
record Joined (n : ℕ) (ls : List (List ℕ)) (os : List (Option Call)) (places : List Answer) (bytes : List ℕ) : Type 0 where
  readings : List Reading
  read : Readings ls readings
  called : calls_of readings ≡ calls os
  text : bytes ≡ written n readings (answers_to os places)

join_line : (n : ℕ) (l : List ℕ) (ls : List (List ℕ)) (o : Option Call) (os : List (Option Call)) (a : Answer) (places : List Answer) (bytes more : List ℕ) (r : Reading)
    → Outcome l r → o ≡ result_ok r → bytes ≡ line_for n r a ++ more → Joined (n + 1) ls os places more → Joined n (l ∷ ls) (o ∷ os) (a ∷ places) bytes
join_line n l ls o os a places bytes more (Ok c) is e put j = record {
  readings = Ok c ∷ j.readings;
  read = (is, j.read);
  called = ap (λ (x : List Call). c ∷ x) j.called ∙ sym (ap (λ (x : Option Call). with_call x (calls os)) e);
  text = put
      ∙ ap (λ (x : List ℕ). answer_line n a ++ x) j.text
      ∙ sym (ap (λ (x : Option Call). written n (Ok c ∷ j.readings) (with_answer x a (answers_to os places))) e);
}
join_line n l ls o os a places bytes more (Err f) is e put j = record {
  readings = Err f ∷ j.readings;
  read = (is, j.read);
  called = j.called ∙ sym (ap (λ (x : Option Call). with_call x (calls os)) e);
  text = put
      ∙ ap (λ (x : List ℕ). fault_line n f ++ x) j.text
      ∙ sym (ap (λ (x : Option Call). written n (Err f ∷ j.readings) (with_answer x a (answers_to os places))) e);
}

join_lines : (n : ℕ) (ls : List (List ℕ)) (os : List (Option Call)) (places : List Answer) (bytes : List ℕ) → AllNoted ls os → Told n ls places bytes → Joined n ls os places bytes
join_lines n [] [] places bytes noted told = record { readings = []; read = tt; called = refl; text = told }
join_lines n [] (o ∷ os) places bytes noted told = absurd noted
join_lines n (l ∷ ls) [] places bytes noted told = absurd noted
join_lines n (l ∷ ls) (o ∷ os) [] bytes noted told = absurd told
join_lines n (l ∷ ls) (o ∷ os) (a ∷ places) bytes noted told =
    join_line n l ls o os a places bytes told.1 told.0 told.2 (noted.0.2 ∙ (same_line l noted.0.0 told.0 noted.0.1 told.2).0) told.3
    (join_lines (n + 1) ls os places told.1 noted.1 told.4)

-- only the places of the lines count
whole : (os : List (Option Call)) → take (length os) os ≡ os
whole [] = refl
whole (o ∷ os) = ap (λ (x : List (Option Call)). o ∷ x) (whole os)

answers_front : (os : List (Option Call)) (places : List Answer) → answers_to os (take (length os) places) ≡ answers_to os places
answers_front [] places = refl
answers_front (o ∷ os) [] = refl
answers_front (o ∷ os) (a ∷ places) = ap (with_answer o a) (answers_front os places)

-- as many lines as are noted
pub noted_length : (ls : List (List ℕ)) (os : List (Option Call)) → AllNoted ls os → length ls ≡ length os
noted_length [] [] h = refl
noted_length [] (o ∷ os) h = absurd h
noted_length (l ∷ ls) [] h = absurd h
noted_length (l ∷ ls) (o ∷ os) h = let e = noted_length ls os h.1 in omega arith

pub all_answered : (K : Kind) (G : Graph) (ls : List (List ℕ)) (os : List (Option Call)) (before places : List Answer) (bytes : List ℕ) → AllNoted ls os → Told 2 ls places bytes
    → Life K G created (calls (common_front os before os)) (answers_to (common_front os before os) (common_front os before places)) → length places ≡ length before → length os ≤ length places → Answered K G ls bytes
all_answered K G ls os before places bytes noted told life same room =
    let j = join_lines 2 ls os places bytes noted told in
    let k : min (length os) (length before) ≡ length os = omega arith in
    let front : Life K G created (calls (take (length os) os)) (answers_to (take (length os) os) (take (length os) places)) =
    subst (λ (m : ℕ). Life K G created (calls (take m os)) (answers_to (take m os) (take m places))) k life in
    let own : Life K G created (calls os) (answers_to os (take (length os) places)) =
    subst (λ (x : List (Option Call)). Life K G created (calls x) (answers_to x (take (length os) places))) (whole os) front in
    record {
      readings = j.readings;
      answers = answers_to os places;
      read = j.read;
      life = subst (λ (x : List Call). Life K G created x (answers_to os places)) (sym j.called) (subst (Life K G created (calls os)) (answers_front os places) own);
      text = j.text;
    }
