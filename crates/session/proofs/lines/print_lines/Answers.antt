use Rattle.std.proofs.Common.{◌≡◌, ℕ, ◌+◌, ◌⊎◌, ⊎_elim, inl, inr, List, [], ◌++◌, length, sym, refl, ap, ◌∙◌, subst, append-nil, arith, rules}
use Rattle.std.specs.Iterator.Adapters.{enumerate_source, enumerate_count, zip_first, zip_second}
use Rattle.std.specs.Slice.Iter.{iter_rest}
use Rattle.calls.specs.declared.Answer.{Answer}
use Rattle.commands.specs.Lines.{lines_left}
use Rattle.commands.specs.Text.{lines_of}
use Rattle.output.specs.Printed.{printed}
use Rattle.session.specs.Steps.{line_for, Told}
use Rattle.session.proofs.Rooms.{room_for, lines_size}
use Rattle.session.proofs.Telling.{tell_none, tell_more, none_left}
use Rattle.session.proofs.lines.print_lines.Goals as goal

pub loop-place-init : goal.loop-place-init
loop-place-init c =
    let text = c.args.text.now in
    let first = c.into_iter-place-iterator.result in
    let size = lines_size text in
    let all : lines_left (zip_first (enumerate_source first)) ≡ lines_of text = grind arith in
    let given : iter_rest (zip_second (enumerate_source first)) ≡ c.args.answers.now = grind arith in
    let zero : enumerate_count first ≡ 0 = grind arith in
    record {
      can = search rules;
      ends = search rules;
      room = omega (arith, size.1, ap room_for all, ap length c.requires.2, c.requires.0);
      places = omega (arith, size.0, ap length all, zero, c.requires.0);
      answered = omega (arith, ap length all, ap length given, c.requires.1);
      told = tell_none (lines_of text) _ c.args.answers.now _ _ _ all given zero c.requires.2;
    }

pub loop-place-preserved : goal.loop-place-preserved
loop-place-preserved c =
    let inv = c.loop-place.invariant in
    let step = c.in-Some.ensures.steps in
    let put = c.print_line.ensures in
    let old = printed c.loop-place.out in
    let room = ap room_for step.0.0 in
    let text = put.added (omega (arith, inv.room, room)) ∙ ap (λ (k : ℕ). old ++ line_for (k + 2) put.reading c.in-Some.answer.now) step.1 in
    record {
      can = search rules;
      ends = search rules;
      room = omega (arith, inv.room, room, put.grows);
      places = omega (arith, inv.places, ap length step.0.0, step.2);
      answered = omega (arith, inv.answered, ap length step.0.0, ap length step.0.1);
      told = tell_more (lines_of c.args.text.now) _ _ c.args.answers.now _ _ _ _ c.in-Some.line.now old _ c.in-Some.answer.now put.reading
          step.0.0 step.0.1 step.2 put.outcome text inv.told;
    }

pub returns : goal.returns
returns c =
    let inv = c.loop-place.invariant in
    let last = c.loop-place.place-iterator in
    let rest : List (List ℕ) = lines_left (zip_first (enumerate_source last)) in
    let left : List Answer = iter_rest (zip_second (enumerate_source last)) in
    let ended : (rest ≡ []) ⊎ (length left ≡ 0) = ⊎_elim (λ h. inl h.1.0) (λ h. inr h.1.0) c.in-None.ensures.steps.0 in
    let none = none_left rest left inv.answered ended in
    subst (Told 2 (lines_of c.args.text.now) c.args.answers.now) (append-nil (printed c.loop-place.out))
    (inv.told [] (subst (λ (ls : List (List ℕ)). Told (enumerate_count last + 2) ls left []) (sym none) refl))
