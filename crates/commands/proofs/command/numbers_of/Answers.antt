use Rattle.std.proofs.Common.{false-eqb}
use Rattle.commands.proofs.Shapes.{no_first, no_end, no_more}
use Rattle.commands.proofs.command.numbers_of.Goals as goal

pub returns-in_err-a : goal.returns-in_err-a
returns-in_err-a c =
    let none = no_first 2 c.args.text.now (false-eqb _ 0 c.if-is_empty.ensures) c.in_err-a.ensures in
    rw c.from_residual.ensures none

pub returns-in_err-b : goal.returns-in_err-b
returns-in_err-b c =
    let none =
    no_more 1 c.args.text.now c.in_ok-a.a c.in_ok-a.rest.now c.in_ok-a.ensures
    (no_first 1 c.in_ok-a.rest.now (false-eqb _ 0 c.if-is_empty-2.ensures) c.in_err-b.ensures) in
    rw c.from_residual-in_err-b.ensures none

pub returns-else-is_empty-3 : goal.returns-else-is_empty-3
returns-else-is_empty-3 c =
    no_more 1 c.args.text.now c.in_ok-a.a c.in_ok-a.rest.now c.in_ok-a.ensures
    (no_more 0 c.in_ok-a.rest.now c.in_ok-b.b c.in_ok-b.end.now c.in_ok-b.ensures
    (no_end c.in_ok-b.end.now (false-eqb _ 0 c.if-is_empty-3.ensures)))
