use Rattle.std.proofs.Common.{refl}
use Rattle.block.proofs.Judging.{judged, judged_only}
use Rattle.block.proofs.block_refusals_mean.Goals as goal

pub returns : goal.returns
returns c = record { mean = record { judged = judged; only = judged_only }; zero = refl }
