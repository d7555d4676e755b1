use Rattle.std.proofs.Common.{refl}
use Rattle.commands.proofs.Shaped.{lines_stand}
use Rattle.commands.proofs.lines.lines_stand.Goals as goal

pub returns : goal.returns
returns c = record { value = refl; lines = lines_stand }
