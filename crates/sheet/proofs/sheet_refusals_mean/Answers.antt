use Rattle.sheet.proofs.Judging.{judged, judged_only}
use Rattle.sheet.proofs.sheet_refusals_mean.Goals as goal

pub returns-clause-mean : goal.returns-clause-mean
returns-clause-mean c = record { judged = judged; only = judged_only }
