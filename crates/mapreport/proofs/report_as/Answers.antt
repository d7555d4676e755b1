use Rattle.std.proofs.Common.{◌≡◌, string_bytes, IfOk, refl, ap, ◌∙◌, subst}
use Rattle.mapreport.specs.Report.{map_text, file_text}
use Rattle.mapreport.proofs.report_as.Goals as goal

pub returns-in-Ok : goal.returns-in-Ok
returns-in-Ok g c =
    let name = c.args.name.now in
    let is = ap (map_text name) (c.in-Ok.ensures.filled refl) ∙ ap (file_text name (g.F.MapFile.held c.args.bytes.now)) c.in-Ok.ensures.number in
    subst (λ t. IfOk c.describe.result (λ s. string_bytes s ≡ t)) is c.describe.ensures
