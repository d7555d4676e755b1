use Rattle.std.proofs.Common.{replicate, sym, subst, arith}
use Rattle.calls.specs.declared.Answer.TheVariants.{Done}
use Rattle.commands.specs.Text.{lines_of}
use Rattle.output.specs.Printed.{printed}
use Rattle.session.specs.Steps.{AllNoted}
use Rattle.session.proofs.Joining.{noted_length, all_answered}
use Rattle.session.proofs.Rooms.{lines_size}
use Rattle.session.proofs.lines.answer_lines.Goals as goal

pub print_lines-requires : goal.print_lines-requires
print_lines-requires g c = (c.requires.0, omega (arith, (lines_size c.args.text.now).0, c.requires.0, c.live_lines.auto.answers), c.requires.1)

pub returns : goal.returns
returns g c =
    let lines = lines_of c.args.text.now in
    let noted = subst (AllNoted lines) (sym c.as_slice.ensures.value) c.noted_calls-calls.ensures in
    all_answered g.K.Length.kind (g.M.Map.graph c.args.map) lines c.as_slice.result.now (replicate 4096 Done) c.live_lines.new.answers
    (printed c.print_lines.new.out) noted c.print_lines.ensures c.live_lines.ensures.life c.live_lines.auto.answers
    (omega (arith, (lines_size c.args.text.now).0, noted_length lines c.as_slice.result.now noted, c.requires.0, c.live_lines.auto.answers))
