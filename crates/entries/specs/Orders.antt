-- The order of entries by a length, and of equal lengths by a number.
use Rattle.std.specs.Prelude.{◌≡◌, ℕ, ◌^◌, ◌≤◌, Bool, true, false, cond, nat_le, nat_lt}
use Rattle.lengths.specs.Kinds.{Kind}

-- the kind's test at codes; after all codes come the other numbers as they rise, so that all numbers are in one order
abbrev pub ranked : Kind → ℕ → ℕ → Bool
ranked K a b = cond (nat_lt a (2 ^ 64)) (cond (nat_lt b (2 ^ 64)) (K.no_worse a b) true) (cond (nat_lt b (2 ^ 64)) false (nat_le a b))

-- a's length is no worse than b's, and where they are equal a's number is no higher
abbrev pub Keyed : {E : Type 0} → Kind → (E → ℕ) → (E → ℕ) → E → E → Type 0
Keyed K length_of tie_of a b = (ranked K (length_of a) (length_of b) ≡ true) × (length_of a ≡ length_of b → tie_of a ≤ tie_of b)
