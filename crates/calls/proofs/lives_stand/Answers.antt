-- Each theorem by its name.
use Rattle.std.proofs.Common.{refl}
use Rattle.calls.proofs.lives_stand.Goals as goal
use Rattle.calls.proofs.Fitting as fitting
use Rattle.calls.proofs.Following as following
use Rattle.calls.proofs.Existing as existing
use Rattle.calls.proofs.Once as once

pub returns : goal.returns
returns c =
    record {
      fit = fitting.lives_fit;
      refusals = following.refusals_keep;
      closures = following.closures_follow;
      exist = existing.lives_exist;
      once = once.lives_once;
      zero = refl;
    }
