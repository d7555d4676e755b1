use Rattle.commands.specs.Text.{lines_of}
use Rattle.session.specs.Prints.{answered}
use Rattle.session.proofs.Opening.{faulty_text}
use Rattle.session.proofs.run_on.Goals as goal

pub returns-in-Ok : goal.returns-in-Ok
returns-in-Ok g c =
    let begins = c.in-Ok.ensures.opened in
    answered c.in-Ok.kind (lines_of c.in-Ok.rest.now) _ begins.size begins.lines c.answer_kind.ensures

pub returns-in-Err : goal.returns-in-Err
returns-in-Err g c =
    faulty_text (g.M.Map.graph c.args.map) c.args.text.now c.in-Err.fault c.number.result _ _ c.in-Err.ensures.opened c.number.ensures c.requires c.put_refusal.ensures
