use Rattle.std.proofs.Common.{◌≡◌, ℕ, zero, suc, ◌+◌, ◌-◌, ◌*◌, Bool, true, false, cond, not, ◌||◌, eqb, refl, sym, ap, ◌∙◌, arith, rules, tests}
use Rattle.std.specs.List.{list_any, range_with_len}
use Rattle.std.proofs.lemmas.Iterator.Search.{any_from_yields_List}
use Rattle.std.proofs.lemmas.Bool.{ne_eqb, not_from_false}
use Rattle.formats.specs.Scan.{scan, lowest_in}
use Rattle.formats.proofs.Finds.{yields_after}
use Rattle.block.specs.Layout.{cell_count}
use Rattle.block.specs.Refusal.{leads_out}
use Rattle.block.proofs.cells.Cells.opens_out.Goals as goal

-- some number passes exactly if there is a lowest
some_or : (t : Bool) (k n : ℕ) (r : Bool) → r ≡ not (eqb n 0) → (t || r) ≡ not (eqb (cond t (suc k) n) 0)
some_or true k n r e = let p : suc k ≡ 0 → ⊥ = λ z. omega arith in sym (not_from_false _ (ne_eqb (suc k) 0 p))
some_or false k n r e = e

any_scan : (P : ℕ → Bool) (a n : ℕ) → list_any P (range_with_len (suc a) n) ≡ not (eqb (scan P a n) 0)
any_scan P a zero = refl
any_scan P a (suc n) =
    let next : suc a + 1 ≡ suc (suc a) = omega arith in
    ap (λ b. P (suc a) || list_any P (range_with_len b n)) next ∙ some_or (P (suc a)) a (scan P (suc a) n) _ (any_scan P (suc a) n)

pub returns : goal.returns
unfolding lowest_in
returns c =
    let bs = c.args.self.now.bytes.now in
    any_from_yields_List (leads_out bs) _ _ c.any.result c.any.ensures.ran (yields_after _ 0 (4 * cell_count bs) (omega arith) (omega (arith, c.count.ensures))) (λ x b q k. search (rules, tests))
    ∙ any_scan (leads_out bs) 0 (4 * cell_count bs - 0)
