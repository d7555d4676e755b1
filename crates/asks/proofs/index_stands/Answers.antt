-- Each theorem by its name.
use Rattle.std.proofs.Common.{refl}
use Rattle.asks.proofs.index_stands.Goals as goal
use Rattle.asks.proofs.Positions as positions
use Rattle.asks.proofs.Following as following

pub returns : goal.returns
returns c = record { inverts = positions.index_inverts; follows = following.numbers_follow_index; zero = refl }
