-- How many closed streets a tree holds, when it is affected, and one mark set or cleared.
use Rattle.std.specs.Prelude.{ℕ, zero, suc, ◌+◌, Bool, cond, not, ◌==◌}
use Rattle.walks.specs.Runs.{Table}
use Rattle.walks.specs.Trees.{slot_in}

-- 1 for true and 0 for false
abbrev pub bit : Bool → ℕ
bit b = cond b 1 0

-- the number of closed streets that a tree holds: how many of junctions 1 to n are settled by a slot of F
abbrev pub closed_held : (ℕ → Bool) → Table → ℕ → ℕ
closed_held F T zero = 0
closed_held F T (suc k) = closed_held F T k + bit (slot_in F (T (suc k)))

-- a tree is affected while that number is not zero
abbrev pub is_affected : (ℕ → Bool) → Table → ℕ → Bool
is_affected F T n = not (closed_held F T n == 0)

-- the marks after that of slot e is set or cleared
abbrev pub marked : (ℕ → Bool) → ℕ → Bool → ℕ → Bool
marked F e b i = cond (i == e) b (F i)
