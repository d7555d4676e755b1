use Rattle.std.proofs.Common.{refl}
use Rattle.session.proofs.Once.{prints_once}
use Rattle.session.proofs.session_prints_once.Goals as goal

pub returns : goal.returns
returns c = record { once = prints_once c.kinds_are_lawful.ensures; zero = refl }
