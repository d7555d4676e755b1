-- Each theorem by its name.
use Rattle.std.proofs.Common.{refl}
use Rattle.walks.proofs.legs_stand.Goals as goal
use Rattle.walks.proofs.Legs as legs

pub returns : goal.returns
returns c =
    record {
      split = legs.walks_split;
      compose = legs.legs_compose;
      answer = legs.legs_answer;
      back = legs.answer_by_legs;
      reached = legs.reached_by_legs;
      zero = refl;
    }
