use Rattle.calls.proofs.Fitting.{fits_created}
use Rattle.oracle.proofs.plan.Plan.new.Goals as goal

pub returns-clause-fits : goal.returns-clause-fits
returns-clause-fits g c = record { moment = rw c.new.ensures (fits_created _) }
