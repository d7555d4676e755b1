-- Each theorem by its name.
use Rattle.std.proofs.Common.{refl}
use Rattle.asks.proofs.partial_legs_stand.Goals as goal
use Rattle.asks.proofs.Partial as partial
use Rattle.asks.proofs.Rounds as rounds
use Rattle.asks.proofs.Redoing as redoing

pub returns : goal.returns
returns c = record { partial = partial.partial_legs_answer; answer = redoing.partial_handed_answer; reach = redoing.partial_handed_reach; last = rounds.last_round; grow = rounds.rounds_grow; zero = refl }
