use Rattle.std.proofs.Common.{rules, tests, arith}
use Rattle.formats.proofs.Finds.{found_lowest}
use Rattle.sheet.specs.Layout.{slot_count}
use Rattle.sheet.specs.Refusal.{wrong_record}
use Rattle.sheet.proofs.records.Records.first_bad_record.Goals as goal

pub returns-clause-value : goal.returns-clause-value
returns-clause-value c =
    let bs = c.args.self.now.bytes.now in
    found_lowest (wrong_record bs) _ _ 0 (slot_count bs) _ _ (omega arith) (omega arith) c.find.ensures.ran (λ x b q k. search (rules, tests))
