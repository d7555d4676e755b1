use Rattle.std.proofs.Common.{◌≡◌, ℕ, zero, suc, ◌-◌, ◌<◌, Some, None, get_or, sym, ◌∙◌, arith}
use Rattle.trees.specs.declared.BoundedTree.{BoundedTree}
use Rattle.trees.specs.Trees.{table_of}
use Rattle.trees.proofs.Tables.{table_zero, table_read}
use Rattle.trees.proofs.BoundedTree.get.Goals as goal

-- where nothing stands at the index before a junction's number, it has no entry
none_there : (t : BoundedTree) (v i : ℕ) → (0 < v → i ≡ v - 1) → get_or t.slots i None ≡ None → table_of t v ≡ None
none_there t zero i at none = table_zero t
none_there t (suc w) i at none = table_read t (suc w) i None (omega arith) (at (omega arith)) none

pub returns-in_err-get : goal.returns-in_err-get
returns-in_err-get c =
    c.from_residual.ensures ∙ sym (none_there c.args.self.now c.args.v _ (λ p. omega (arith, c.from-i.ensures)) (sym (c.in_err-get.ensures.lookup.4 (omega arith) None)))

pub returns-in_err-slot : goal.returns-in_err-slot
returns-in_err-slot c =
    c.from_residual-in_err-slot.ensures ∙ sym (none_there c.args.self.now c.args.v _ (λ p. omega (arith, c.from-i.ensures)) (sym (c.in_ok-get.ensures.lookup.3.1 None) ∙ c.in_err-slot.was))

pub returns : goal.returns
returns c =
    let low = c.in_ok-get.ensures.lookup in
    sym (table_read c.args.self.now c.args.v _ (Some c.in_ok-slot.slot) (omega (arith, c.from-i.ensures)) (omega (arith, c.from-i.ensures)) (sym (c.in_ok-get.ensures.lookup.3.1 None) ∙ c.in_ok-slot.was))
