-- Each theorem by its name.
use Rattle.std.proofs.Common.{refl}
use Rattle.walks.proofs.answers_stand.Goals as goal
use Rattle.walks.proofs.OneAnswer as answers
use Rattle.walks.proofs.Runs as runs

pub returns : goal.returns
returns c = record { one = answers.one_answer; run = runs.run_answers; zero = refl }
