use Rattle.std.proofs.Common.{rules, tests, arith}
use Rattle.formats.proofs.Finds.{found_lowest}
use Rattle.sheet.specs.Layout.{slot_count, sheet_graph}
use Rattle.sheet.specs.Chains.{on_chain}
use Rattle.sheet.proofs.Links.{equal_some}
use Rattle.sheet.proofs.records.Records.lowest_on.Goals as goal

pub returns : goal.returns
returns c =
    let bs = c.args.self.now.bytes.now in
    found_lowest (on_chain (sheet_graph bs) c.args.chain c.args.v) _ _ c.args.after (slot_count bs) _ _ (omega arith) (omega arith) c.find.ensures.ran (λ x b q k. search (rules, tests, equal_some))
