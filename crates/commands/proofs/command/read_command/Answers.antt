use Rattle.std.proofs.Common.{◌≡◌, length, get_or, MatchOption, Option, Err, rules, subst, arith}
use borrow.Author.Tests.{ltb-true, ltb-false}
use Rattle.commands.specs.Parts.{Front}
use Rattle.commands.specs.Reading.{Follow, NoNumbers}
use Rattle.commands.specs.declared.command.Numbers.{Numbers}
use Rattle.commands.specs.declared.command.LineFault.TheVariants.{NoForm}
use Rattle.commands.proofs.Lettered.{number_first, no_letter, letter_first}
use Rattle.commands.proofs.Decided.{outcome, unnumbered}
use Rattle.commands.proofs.Unique.{exact, within}
use Rattle.commands.proofs.command.read_command.Goals as goal
use Rattle.commands.proofs.command.read_command.Goals.{in_default-word-via-then-word-lt1, in_default-word-via-else-word-lt1+else-word-lt2}

pub returns-in_default : goal.returns-in_default
returns-in_default c =
    let line = c.args.line.now in
    let f = subst (λ t. Front line t c.next_token.result.1.now) c.in_default.is c.next_token.ensures in
    let told = number_first line _ _ f f.classed.0 in
    record { outcome = told; exact = exact line (Err NoForm) told; within = within line (Err NoForm) told }

pub returns-in_default-word : goal.returns-in_default-word
returns-in_default-word c =
    let line = c.args.line.now in
    let f = subst (λ t. Front line t c.next_token.result.1.now) c.in-Word.is c.next_token.ensures in
    let other : length c.in-Word.word.now ≡ 1 → ⊥ =
    elim c.in_default-word.branch [
      | in_default-word-via-then-word-lt1 w ↦ λ e. omega (arith, ltb-true)
      | in_default-word-via-else-word-lt1+else-word-lt2 w ↦ λ e. omega (arith, ltb-false)
    ] in
    let told = no_letter line _ _ f other in
    record { outcome = told; exact = exact line (Err NoForm) told; within = within line (Err NoForm) told }

pub returns-in_err-numbers : goal.returns-in_err-numbers
returns-in_err-numbers c =
    let line = c.args.line.now in
    let rest = c.next_token.result.1.now in
    let f = subst (λ t. Front line t rest) c.in-Word.is c.next_token.ensures in
    let none : NoNumbers 2 rest = subst (λ (o : Option Numbers). MatchOption o (NoNumbers 2 rest) (Follow rest)) c.in_err-numbers.ensures.ok_part c.numbers_of.ensures in
    let told = letter_first line _ _ f (omega arith) (Err NoForm) (unnumbered _ _ none) in
    let is : c.from_residual.result ≡ Err NoForm = search rules in
    rw is record { outcome = told; exact = exact line (Err NoForm) told; within = within line (Err NoForm) told }

pub returns : goal.returns
returns c =
    let line = c.args.line.now in
    let rest = c.next_token.result.1.now in
    let f = subst (λ t. Front line t rest) c.in-Word.is c.next_token.ensures in
    let follow : Follow rest c.in_ok-numbers.numbers = subst (λ (o : Option Numbers). MatchOption o (NoNumbers 2 rest) (Follow rest)) c.in_ok-numbers.ensures.ok_part c.numbers_of.ensures in
    let read = outcome (get_or c.in-Word.word.now 0 0) rest c.in_ok-numbers.numbers follow in
    let told = letter_first line _ _ f (omega arith) c.decide.result (rw c.decide.ensures read) in
    record { outcome = told; exact = exact line c.decide.result told; within = within line c.decide.result told }
