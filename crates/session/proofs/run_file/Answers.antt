use Rattle.std.proofs.Common.{sym, refl, subst}
use Rattle.maps.specs.Graph.{Graph}
use Rattle.output.specs.Printed.{printed}
use Rattle.session.specs.Prints.{PrintsText, opened}
use Rattle.session.proofs.Opening.{refused_over}
use Rattle.session.proofs.run_file.Goals as goal

pub returns-in-Ok : goal.returns-in-Ok
returns-in-Ok g c =
    opened _ (sym c.in-Ok.ensures.number)
    (subst (λ (G : Graph). PrintsText G c.args.text.now (printed c.run_on.new.out)) (c.in-Ok.ensures.filled refl) c.run_on.ensures)

pub returns-in-Err : goal.returns-in-Err
returns-in-Err g c =
    refused_over (g.F.MapFile.refusal c.args.bytes.now) (g.F.MapFile.held c.args.bytes.now) c.args.text.now c.in-Err.fault c.number.result _ _
    c.in-Err.ensures.number c.number.ensures c.requires c.put_refusal.ensures
