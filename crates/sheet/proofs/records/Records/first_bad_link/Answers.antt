use Rattle.std.proofs.Common.{◌+◌, rules, tests, arith}
use Rattle.formats.proofs.Finds.{found_lowest}
use Rattle.sheet.specs.Layout.{junction_count, slot_count}
use Rattle.sheet.specs.Refusal.{wrong_links}
use Rattle.sheet.proofs.records.Records.first_bad_link.Goals as goal

pub returns : goal.returns
returns c =
    let bs = c.args.self.now.bytes.now in
    found_lowest (wrong_links bs) _ _ 0 (junction_count bs + slot_count bs) _ _ (omega arith) (omega arith) c.find.ensures.ran (λ x b q k. search (rules, tests))
