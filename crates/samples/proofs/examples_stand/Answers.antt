use Rattle.std.proofs.Common.{refl}
use Rattle.formats.specs.Scan.{lowest_in}
use Rattle.sheet.specs.Refusal.{wrong_record, wrong_link}
use Rattle.block.specs.Refusal.{leads_out}
use Rattle.samples.specs.Examples.{SheetExamples, BlockExamples}
use Rattle.samples.proofs.examples_stand.Goals as goal

sheet_examples : SheetExamples
unfolding lowest_in wrong_record wrong_link
sheet_examples = record {
  opens = refl;
  counts = (refl, refl);
  street0 = refl;
  street1 = refl;
  street2 = refl;
  street3 = refl;
  street4 = refl;
  street5 = refl;
  street6 = refl;
  leaving = (refl, refl, refl);
  entering = (refl, refl, refl);
  links = (refl, refl, refl, refl);
  short = refl;
  other = refl;
  range = refl;
  longer = refl;
  rest = refl;
  ends = refl;
  link = refl;
}

block_examples : BlockExamples
unfolding lowest_in leads_out
block_examples = record {
  opens = refl;
  counts = (refl, refl);
  street1 = refl;
  street2 = refl;
  street3 = refl;
  street4 = refl;
  street5 = refl;
  street6 = refl;
  street7 = refl;
  street8 = refl;
  short = refl;
  other = refl;
  range = refl;
  longer = refl;
  edge = refl;
}

pub returns : goal.returns
returns c = (sheet_examples, block_examples, refl)
