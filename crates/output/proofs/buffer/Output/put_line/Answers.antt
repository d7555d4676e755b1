use Rattle.std.proofs.Common.{ℕ, List, [], Bor, take, length, ap, arith, length-append}
use Rattle.std.proofs.lemmas.List.Folds.{length-flat_map-take}
use Rattle.output.specs.Printed.{printed}
use Rattle.output.specs.Written.{joined}
use Rattle.output.proofs.buffer.Output.put_line.Goals as goal

pub push-requires : goal.push-requires
push-requires c =
    let parts = c.args.parts.now in
    let i = c.loop-part.part-index in
    let none : Bor (List ℕ) = record { ref_ptr = (0, 0); now = [] } in
    omega (arith, ap length c.loop-part.invariant, length-append (printed c.args.self.now) (joined (take i parts)), length-flat_map-take (λ part. part.now) parts i none c.loop-part-test.true)
