use Rattle.std.proofs.Common.{◌≡◌, sym, subst, rules}
use Rattle.formats.specs.Faults.{answered}
use Rattle.block.specs.Refusal.{refusal}
use Rattle.block.specs.Meaning.{Judged}
use Rattle.block.proofs.Judging.{judged}
use Rattle.block.proofs.Places.{says}
use Rattle.block.proofs.open_block.Goals as goal

pub returns-in_err-check-clause-judged : goal.returns-in_err-check-clause-judged
returns-in_err-check-clause-judged c =
    let is : answered c.from_residual.result ≡ refusal c.args.bytes.now = search rules in
    subst (Judged c.args.bytes.now) (sym is) (judged c.args.bytes.now)

pub returns-clause-judged : goal.returns-clause-judged
returns-clause-judged c = subst (Judged c.args.bytes.now) (sym c.in_ok-check.ensures) (judged c.args.bytes.now)

pub returns-clause-says : goal.returns-clause-says
returns-clause-says c _ = says c.args.bytes.now (sym c.in_ok-check.ensures)
