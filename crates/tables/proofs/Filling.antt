-- One row of the leg table, position by position.
use Rattle.std.proofs.Common.{◌≡◌, ℕ, ◌+◌, ◌≤◌, cond, leb, get_or, List, arith}
use Rattle.std.proofs.lemmas.Bool.Decides.{nat_tests}
use mathlib.Core.Path.{fun_ext}
use Rattle.walks.specs.Runs.{Table, length_of}
use Rattle.walks.specs.Legs.{Legs}
use Rattle.legs.specs.Tables.{are_positions, with_leg}
use Rattle.tables.specs.Rows.{with_row_to}

-- the legs D, but the row of position p to positions 1 to m, of k positions
unfoldable pub with_row_up_to : ℕ → ℕ → List ℕ → ℕ → Table → Legs → Legs
with_row_up_to m k ns p T D i j = cond (leb j m) (with_row_to k ns p T D i j) (D i j)

module _ (k : ℕ) (ns : List ℕ) (p : ℕ) (T : Table) (D : Legs) where
  -- before the first position
  pub row_none : with_row_up_to 0 k ns p T D ≡ D
  unfolding with_row_up_to
  row_none = fun_ext (λ i. fun_ext (λ j. grind (arith, nat_tests)))

  -- past the last position
  pub row_all : (m : ℕ) → k ≤ m → with_row_up_to m k ns p T D ≡ with_row_to k ns p T D
  unfolding with_row_up_to
  row_all m le = fun_ext (λ i. fun_ext (λ j. grind (arith, nat_tests)))

  -- one position more
  pub row_more : (m : ℕ) → with_leg (are_positions k p (m + 1)) p (m + 1) (length_of (T (get_or ns m 0))) (with_row_up_to m k ns p T D) ≡ with_row_up_to (m + 1) k ns p T D
  unfolding with_row_up_to
  row_more m = fun_ext (λ i. fun_ext (λ j. grind (arith, nat_tests)))
