use Rattle.std.proofs.Common.{◌≡◌, rules, arith, ◌∙◌, ap}
use Rattle.sheet.specs.Layout.{slot_record}
use Rattle.sheet.specs.Refusal.{blank, wrong_record}
use Rattle.sheet.proofs.Streets.{blank_taken}
use Rattle.sheet.proofs.records.Records.is_wrong_record.Goals as goal

pub returns-then-tail-eq0 : goal.returns-then-tail-eq0
unfolding wrong_record
returns-then-tail-eq0 c =
    let bs = c.args.self.now.bytes.now in
    let is : c.is_blank.result ≡ blank bs (slot_record bs c.args.e) 10 =
    c.is_blank.ensures ∙ blank_taken bs c.slot_record-at.result 10 _ (omega arith) (omega arith) ∙ ap (λ i. blank bs i 10) c.slot_record-at.ensures in
    search rules
