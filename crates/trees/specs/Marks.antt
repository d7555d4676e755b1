-- Which slots are closed, told by a list of marks.
use Rattle.std.specs.Prelude.{ℕ, zero, suc, Bool, false, List, slice_index_or}

-- slot e is closed: its mark stands at e - 1; slot 0 is never closed
abbrev pub closed_in : List Bool → ℕ → Bool
closed_in marks zero = false
closed_in marks (suc i) = slice_index_or marks i false
