-- How the trees' numbers follow the inverted index when a street is closed or reopened.
use Rattle.std.proofs.Common.{◌≡◌, ℕ, ◌<◌, ◌≤◌, true, false, List, length, ap, ⊎_elim, arith}
use Rattle.std.proofs.lemmas.Bool.{cases_Bool}
use Rattle.walks.specs.Streets.{member}
use Rattle.walks.specs.Trees.{Tells, Holds}
use Rattle.asks.specs.Held.{bit}
use Rattle.asks.specs.Index.{node_at, tree_at, positions}
use Rattle.asks.specs.Claims.{NumberFollows, NumbersFollowIndex}
use Rattle.asks.proofs.Numbers.{number_follows_marks}
use Rattle.asks.proofs.Positions.{positions_tell}
use Rattle.asks.proofs.Handing.{node_on_map}

pub numbers_follow_index : NumbersFollowIndex
numbers_follow_index K law G map ns on F e i pos lo hi =
    record {
      close = λ q. ⊎_elim
          (λ (m : member ps i ≡ true). let one = ap bit m in omega (arith, f.close q (t.0 m).2))
          (λ (m : member ps i ≡ false). let none = ap bit m in omega (arith, f.apart true (λ h. t.1 m (lo, hi, h))))
          (cases_Bool (member ps i));
      reopen = λ q. ⊎_elim
          (λ (m : member ps i ≡ true). let one = ap bit m in omega (arith, f.reopen q (t.0 m).2))
          (λ (m : member ps i ≡ false). let none = ap bit m in omega (arith, f.apart false (λ h. t.1 m (lo, hi, h))))
          (cases_Bool (member ps i));
    }
  where
    ps : List ℕ
    ps = positions K G ns e

    t : Tells (member ps i) ((0 < i) × (i ≤ length ns) × Holds (tree_at K G ns i) e)
    t = positions_tell K G ns law map (length ns) e i

    f : NumberFollows F (tree_at K G ns i) G.junctions e
    f = number_follows_marks K law G map ns (node_at ns i) (node_on_map G ns on i lo hi) F e pos
