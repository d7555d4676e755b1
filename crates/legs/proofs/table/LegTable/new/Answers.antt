use Rattle.std.proofs.Common.{◌≡◌, ℕ, ◌^◌, ◌<◌, Some, None, Option, refl}
use Rattle.std.proofs.lemmas.List.Elements.{All-replicate}
use Rattle.walks.proofs.Facts.{none≢some}
use Rattle.legs.specs.Tables.{leg_of}
use Rattle.legs.proofs.Cells.{no_leg}
use Rattle.legs.proofs.table.LegTable.new.Goals as goal

pub invariant_of-result-clause-coded : goal.invariant_of-result-clause-coded
invariant_of-result-clause-coded c = All-replicate (λ (o : Option ℕ). (w : ℕ) → o ≡ Some w → w < 2 ^ 64) 289 None (λ w e. absurd (none≢some refl e))

pub returns-clause-legs : goal.returns-clause-legs
unfolding leg_of
returns-clause-legs c = no_leg _ 289
