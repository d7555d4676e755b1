-- The lowest number that passes a test, as a function that computes; 0 stands for none.
use Rattle.std.specs.Prelude.{ℕ, zero, suc, ◌-◌, Bool, cond, Some, None, Option}

-- the lowest of the f numbers above a that passes, or 0
abbrev pub scan : (ℕ → Bool) → ℕ → ℕ → ℕ
scan P a zero = 0
scan P a (suc f) = cond (P (suc a)) (suc a) (scan P (suc a) f)

-- the lowest of the numbers above a and up to m that passes, or 0
unfoldable pub lowest_in : (ℕ → Bool) → ℕ → ℕ → ℕ
lowest_in P a m = scan P a (m - a)

-- 0 stands for none
abbrev pub optional : ℕ → Option ℕ
optional zero = None
optional (suc k) = Some (suc k)
