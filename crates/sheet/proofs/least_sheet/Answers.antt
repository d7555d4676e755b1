use Rattle.std.proofs.Common.{refl, rules}
use Rattle.formats.specs.Scan.{lowest_in}
use Rattle.sheet.specs.Refusal.{wrong_record, wrong_link}
use Rattle.sheet.proofs.least_sheet.Goals as goal

pub invariant_of-result : goal.invariant_of-result
unfolding lowest_in wrong_record wrong_link
invariant_of-result c = record { sound = (refl, search rules) }
