-- The examples by their name; paces and gates are lawful, as the call says.
use Rattle.std.proofs.Common.{refl}
use Rattle.calls.proofs.examples_stand.Goals as goal
use Rattle.calls.proofs.Examples as examples

pub returns : goal.returns
returns c = record { solved = examples.solved c.kinds_are_lawful.ensures; zero = refl }
