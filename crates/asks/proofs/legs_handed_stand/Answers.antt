-- Each theorem by its name.
use Rattle.std.proofs.Common.{refl}
use Rattle.asks.proofs.legs_handed_stand.Goals as goal
use Rattle.asks.proofs.Handing as handing

pub returns : goal.returns
returns c = record { legs = handing.handed_are_legs; answer = handing.handed_answer; reach = handing.handed_reach; zero = refl }
