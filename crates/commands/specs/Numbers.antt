-- Numbers as they are written.
use Rattle.std.specs.Prelude.{◌≡◌, ℕ, ◌+◌, ◌-◌, ◌*◌, ◌<◌, Bool, true, ◌&&◌, List, length, fold, nat_le}
use Rattle.std.specs.List.{AllByRecursion}

-- b is one of the digits 0 to 9
abbrev pub is_digit : ℕ → Bool
is_digit b = nat_le 48 b && nat_le b 57

-- a number as written: one or more digits
abbrev pub IsNumeral : List ℕ → Type 0
IsNumeral ds = (0 < length ds) × AllByRecursion (λ d. is_digit d ≡ true) ds

-- the number that digits write, in base ten
abbrev pub value_of : List ℕ → ℕ
value_of ds = fold (λ n d. n * 10 + (d - 48)) 0 ds
