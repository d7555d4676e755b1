use Rattle.std.proofs.Common.{ℕ, List, length, decimal, ap, ◌∙◌, subst}
use Rattle.commands.specs.Outcome.{line_fault_number}
use Rattle.output.specs.Printed.{printed}
use Rattle.output.specs.Written.{Put}
use Rattle.output.proofs.Lines.{large_text}
use Rattle.output.proofs.buffer.Output.put_fault.Goals as goal

pub returns-in-TooLarge : goal.returns-in-TooLarge
returns-in-TooLarge c =
    let place = c.as_bytes-place.ensures.value ∙ c.format.ensures.text in
    let number = c.number-in-TooLarge.ensures ∙ ap line_fault_number c.in-TooLarge.is in
    let reason = c.as_bytes-reason.ensures.value ∙ c.format-in-TooLarge.ensures.text ∙ ap decimal number in
    let text = large_text _ _ c.in-TooLarge.digits.now c.args.line place reason in
    let put = subst (λ (l : List ℕ). Put (printed c.args.self.now) (printed c.put_line.new.self) (length c.in-TooLarge.digits.now) l) text c.put_line.ensures in
    rw c.in-TooLarge.is put
