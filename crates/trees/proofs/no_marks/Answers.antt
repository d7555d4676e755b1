use Rattle.trees.proofs.Closed.{replicate_closed}
use Rattle.trees.proofs.no_marks.Goals as goal

pub returns : goal.returns
returns c = replicate_closed 512
