use Rattle.std.proofs.Common.{◌≡◌, false, sym, subst, rules}
use Rattle.calls.specs.Fitting.{FitsMap}
use Rattle.calls.specs.Moments.{after}
use Rattle.calls.specs.declared.Call.TheVariants.{Name}
use Rattle.calls.proofs.Fitting.{fits_after}
use Rattle.tables.specs.Tables.{moment_of}
use Rattle.oracle.proofs.plan.Plan.name.Goals as goal

pub returns-clause-fits : goal.returns-clause-fits
returns-clause-fits g c =
    let G = g.M.Map.graph c.args.self.now.map in
    let x = c.args.self.now.tables in
    let moment : moment_of false (record x { transit = c.try_push.new.self }) ≡ after G (moment_of false x) (Name c.args.v) = search rules in
    record { moment = subst (FitsMap G) (sym moment) (fits_after G (moment_of false x) (Name c.args.v) c.requires.moment) }
