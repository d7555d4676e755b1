use Rattle.std.proofs.Common.{◌∙◌, arith}
use Rattle.sheet.specs.Layout.{sheet_graph}
use Rattle.sheet.proofs.Links.{lowest_off}
use Rattle.sheet.proofs.records.Records.lowest_after.Goals as goal

pub returns-in_err-v : goal.returns-in_err-v
returns-in_err-v c = c.from_residual.ensures ∙ lowest_off (sheet_graph c.args.self.now.bytes.now) c.args.chain _ c.args.e (omega arith) c.in_err-v.ensures
