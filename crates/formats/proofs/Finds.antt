-- A range that ends before a number: what it gives, and what `find` over it answers, by lowest_in.
use Rattle.std.proofs.Common.{◌≡◌, ℕ, zero, suc, ◌+◌, ◌-◌, Bool, true, false, cond, Some, Option, Bor, refl, sym, ◌∙◌, subst, arith}
use Rattle.std.specs.declared.ops.Range.{Range}
use Rattle.std.specs.Iterator.{FindsItem}
use Rattle.std.specs.List.{find, range_with_len}
use Rattle.std.specs.Fn.{CalledAt}
use Rattle.std.proofs.iter.Yields.{nat_range_steps}
use Rattle.std.proofs.lemmas.Iterator.{YieldsList, YieldsList-from_range}
use Rattle.std.proofs.lemmas.Iterator.Adapters.{option_map_id}
use Rattle.std.proofs.lemmas.Iterator.Search.{find_from_yields_List}
use denote.Param.Members.{Mut}
use Rattle.formats.specs.Scan.{scan, optional, lowest_in}

hit_or : (t : Bool) (k n : ℕ) (r : Option ℕ) → r ≡ optional n → cond t (Some (suc k)) r ≡ optional (cond t (suc k) n)
hit_or true k n r e = refl
hit_or false k n r e = e

-- the numbers from b on, of which a is the one before
find_scan : (P : ℕ → Bool) (a b n : ℕ) → b ≡ suc a → find P (range_with_len b n) ≡ optional (scan P a n)
find_scan P a b zero e = refl
find_scan P a b (suc n) e =
    subst (λ x. cond (P x) (Some x) (find P (range_with_len (b + 1) n)) ≡ optional (cond (P (suc a)) (suc a) (scan P (suc a) n))) (sym e)
    (hit_or (P (suc a)) a (scan P (suc a) n) (find P (range_with_len (b + 1) n)) (find_scan P (suc a) (b + 1) n (omega arith)))

-- a range gives the numbers from a + 1 to m
pub yields_after : (s : Range ℕ) (a m : ℕ) → s.start ≡ suc a → s.end ≡ suc m → YieldsList nat_range_steps (λ x. x) s (range_with_len (suc a) (m - a))
yields_after s a m start end = YieldsList-from_range (suc a) (suc m) (m - a) (λ i. record { start = start i; end = end i }) (omega arith)

-- `find` over the numbers from a + 1 to m answers the lowest that passes
pub found_lowest : {F : Type 0} {g : Mut F (Bor ℕ × Unit {0}) Bool} (P : ℕ → Bool) (s u : Range ℕ) (a m : ℕ) (f : F) (r : Option ℕ)
    → s.start ≡ suc a → s.end ≡ suc m → FindsItem nat_range_steps g s f r u
    → ((x : ℕ) (b : Bool) (q : F) → CalledAt g f x b q → (q ≡ f) × (b ≡ P x)) → r ≡ optional (lowest_in P a m)
unfolding lowest_in
found_lowest P s u a m f r start end d tests =
    sym (option_map_id r) ∙ find_from_yields_List P u f r d (yields_after s a m start end) tests ∙ find_scan P a (suc a) (m - a) refl
