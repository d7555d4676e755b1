use Rattle.std.proofs.Common.{refl, rules}
use Rattle.formats.specs.Scan.{lowest_in}
use Rattle.block.specs.Refusal.{leads_out}
use Rattle.block.proofs.least_block.Goals as goal

pub invariant_of-result : goal.invariant_of-result
unfolding lowest_in leads_out
invariant_of-result c = record { sound = (refl, search rules) }
