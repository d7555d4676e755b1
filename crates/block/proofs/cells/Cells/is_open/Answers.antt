use Rattle.std.proofs.Common.{◌≡◌, ℕ, ◌*◌, ◌/◌, ◌%◌, ◌<◌, not, eqb, ap, ◌∙◌, arith, bit_and}
use Rattle.std.proofs.lemmas.Bool.Decides.{nat_tests}
use Rattle.std.proofs.lemmas.Nat.Bits.{and_pow}
use Rattle.block.specs.declared.cells.Side.{Side}
use Rattle.block.specs.declared.cells.Side.TheVariants.{North, East, South, West}
use Rattle.block.specs.Layout.{bit_of}
use Rattle.block.proofs.cells.Cells.is_open.Goals as goal

-- a bit is set exactly if its place holds 1
some_bit : (x b k : ℕ) → x ≡ b * k → b < 2 → 0 < k → not (eqb x 0) ≡ eqb b 1
some_bit x b k e l p = grind (arith, nat_tests)

bit_test : (n : ℕ) (s : Side) → not (eqb (bit_and n (bit_of s)) 0) ≡ eqb (n / bit_of s % 2) 1
bit_test n North = some_bit _ _ 1 (and_pow n 0) (omega arith) (omega arith)
bit_test n East = some_bit _ _ 2 (and_pow n 1) (omega arith) (omega arith)
bit_test n South = some_bit _ _ 4 (and_pow n 2) (omega arith) (omega arith)
bit_test n West = some_bit _ _ 8 (and_pow n 3) (omega arith) (omega arith)

pub returns : goal.returns
returns c = ap (λ b. not (eqb (bit_and c.cell.result b) 0)) c.bit.ensures ∙ bit_test c.cell.result c.args.side ∙ ap (λ n. eqb (n / bit_of c.args.side % 2) 1) c.cell.ensures
