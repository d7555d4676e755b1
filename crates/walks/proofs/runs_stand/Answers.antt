-- Each theorem by its name.
use Rattle.std.proofs.Common.{refl}
use Rattle.walks.proofs.runs_stand.Goals as goal
use Rattle.walks.proofs.Runs as runs
use Rattle.walks.proofs.Reversed as back
use Rattle.walks.proofs.Rule as rule
use Rattle.walks.proofs.Trees as trees

pub returns : goal.returns
returns c =
    record {
      coded = runs.lawful_is_coded;
      sound = runs.run_sound;
      complete = runs.run_complete;
      tree = trees.run_is_tree;
      reversed_sound = back.reversed_sound;
      reversed_complete = back.reversed_complete;
      follows = rule.run_follows_rule;
      only = rule.rule_has_one_run;
      zero = refl;
    }
