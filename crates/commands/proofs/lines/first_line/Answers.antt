use Rattle.std.proofs.Common.{◌≡◌, drop, ap, ◌∙◌, arith, false-eqb}
use Rattle.commands.proofs.First.{past_end, first, cut}
use Rattle.commands.proofs.lines.first_line.Goals as goal

pub returns-clause-first : goal.returns-clause-first
returns-clause-first c =
    let past : c.unwrap_or.result.now ≡ drop 1 c.split_at.result.1.now = ap (λ b. b.now) c.unwrap_or.ensures ∙ past_end c.split_at.result.1 c.get.result c.get.ensures.lookup in
    let some = false-eqb _ 0 c.if-is_empty.ensures in
    first c.args.text.now _ c.split_at.result.1.now _ c.length_before.result c.length_before.ensures.count c.split_at.ensures.front c.split_at.ensures.back past (omega arith)

pub returns-clause-whole : goal.returns-clause-whole
returns-clause-whole c =
    let past : c.unwrap_or.result.now ≡ drop 1 c.split_at.result.1.now = ap (λ b. b.now) c.unwrap_or.ensures ∙ past_end c.split_at.result.1 c.get.result c.get.ensures.lookup in
    cut c.args.text.now _ c.split_at.result.1.now _ c.length_before.result c.length_before.ensures.count c.split_at.ensures.front c.split_at.ensures.back past
