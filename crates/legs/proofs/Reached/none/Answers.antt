use mathlib.Core.Path.{fun_ext}
use Rattle.legs.proofs.Cells.{all_none}
use Rattle.legs.proofs.Reached.none.Goals as goal

pub returns : goal.returns
returns c = fun_ext (all_none 32)
