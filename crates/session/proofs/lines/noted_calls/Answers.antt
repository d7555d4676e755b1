use Rattle.std.proofs.Common.{◌≡◌, ℕ, ◌+◌, List, [], ◌++◌, length, Option, sym, ap, subst, append-nil, arith}
use Rattle.calls.specs.declared.Call.{Call}
use Rattle.commands.specs.Lines.{lines_left}
use Rattle.commands.specs.Text.{lines_of}
use Rattle.session.specs.Steps.{AllNoted}
use Rattle.session.proofs.Rooms.{lines_size}
use Rattle.session.proofs.lines.noted_calls.Goals as goal

-- no line is noted
note_none : (lines rest : List (List ℕ)) (now : List (Option Call)) → rest ≡ lines → now ≡ [] → (more : List (Option Call)) → AllNoted rest more → AllNoted lines (now ++ more)
note_none lines rest now e none more t = subst (λ (os : List (Option Call)). AllNoted lines (os ++ more)) (sym none) (subst (λ (ls : List (List ℕ)). AllNoted ls more) e t)

pub loop-line-init : goal.loop-line-init
loop-line-init c =
    let text = c.args.text.now in
    let all : lines_left c.into_iter-line-iterator.result ≡ lines_of text = grind arith in
    record {
      room = omega (arith, ap length all, ap length c.new-calls.ensures, (lines_size text).0, c.requires);
      noted = note_none (lines_of text) _ c.new-calls.result.items all c.new-calls.ensures;
    }

pub returns : goal.returns
returns c =
    subst (AllNoted (lines_of c.args.text.now)) (append-nil c.loop-line.calls.items)
    (c.loop-line.invariant.noted [] (subst (λ (ls : List (List ℕ)). AllNoted ls []) (sym c.in-None.ensures.steps.0) tt))
