-- The whole table by one computed test, and the lemma that turns the test into what the rows say.
use Rattle.std.proofs.Common.{◌≡◌, true, refl}
use Rattle.formats.specs.Scan.{lowest_in}
use Rattle.sheet.specs.Refusal.{wrong_record, wrong_link}
use Rattle.block.specs.Refusal.{leads_out}
use Rattle.solved.specs.Table.{table}
use Rattle.solved.proofs.Tested.{every, test}
use Rattle.solved.proofs.Sound.{all_stand}
use Rattle.solved.proofs.solved_examples_stand.Goals as goal

tested : every test table ≡ true
unfolding lowest_in wrong_record wrong_link leads_out
tested = refl

pub returns : goal.returns
returns c = record { solved = all_stand c.kinds_are_lawful.ensures table tested; zero = refl }
