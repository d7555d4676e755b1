-- Iterators over a..=b: the numbers that they give, and what `all` answers by them.
use Rattle.std.proofs.Common.{◌≡◌, ℕ, suc, ◌+◌, ◌-◌, ◌<◌, ◌≤◌, Bool, true, false, List, ◌∷◌, length, get_or, refl, sym, ap, ◌∙◌, subst, arith, MatchBool}
use Rattle.std.specs.declared.ops.RangeInclusive.{RangeInclusive}
use Rattle.std.specs.Range.{range_inclusive_start, range_inclusive_end, range_inclusive_exhausted, range_inclusive_len}
use Rattle.std.specs.Iterator.{ChecksAll}
use Rattle.std.specs.List.{range_with_len, AllWithin, HoldsAt}
use Rattle.std.specs.Fn.{Called}
use Rattle.std.proofs.iter.Yields.{listed}
use Rattle.std.proofs.iter.runs.Sources.{nat_range_inclusive_steps}
use Rattle.std.proofs.lemmas.Iterator.{YieldsList, cases_from_all}
use Rattle.std.proofs.lemmas.List.FromFn.{length-range_with_len, get_or-range_with_len}
use denote.Param.Members.{Mut}

-- how many numbers are left
abbrev left : RangeInclusive ℕ → ℕ
left s = range_inclusive_len (λ x y. y - x) (range_inclusive_start s) (range_inclusive_end s) (range_inclusive_exhausted s)

numbers : RangeInclusive ℕ → List ℕ
numbers s = range_with_len (range_inclusive_start s) (left s)

spent : (s : RangeInclusive ℕ) → range_inclusive_exhausted s ≡ true → left s ≡ 0
spent s e = ap (range_inclusive_len (λ x y. y - x) (range_inclusive_start s) (range_inclusive_end s)) e

fresh : (s : RangeInclusive ℕ) → range_inclusive_exhausted s ≡ false → left s ≡ range_inclusive_end s + 1 - range_inclusive_start s
fresh s e = omega (arith, ap (range_inclusive_len (λ x y. y - x) (range_inclusive_start s) (range_inclusive_end s)) e)

same_rest : (a b n : ℕ) (e : Bool) → (e ≡ true → n ≡ 0) → (e ≡ false → b ≡ a) → range_with_len a n ≡ range_with_len b n
same_rest a b n true h k = simp (h refl)
same_rest a b n false h k = simp (k refl)

yields : (s : RangeInclusive ℕ) → YieldsList nat_range_inclusive_steps (λ x. x) s (numbers s)
unfolding numbers
yields s = record {
  runs = listed nat_range_inclusive_steps (λ x. x) numbers (λ s t p. ap (λ n. length (range_with_len (range_inclusive_start s) n)) p.1.0)
      (λ s x t p. let more : left s ≡ suc (left t) = omega (arith, p.1.1) in
      ap (range_with_len (range_inclusive_start s)) more
      ∙ ap (λ y. y ∷ range_with_len (range_inclusive_start s + 1) (left t)) (sym p.1.0)
      ∙ ap (λ ys. x ∷ ys) (same_rest (range_inclusive_start s + 1) (range_inclusive_start t) (left t) (range_inclusive_exhausted t) (spent t) p.1.2))
      s;
}

module _ (s : RangeInclusive ℕ) (a b : ℕ) (start : range_inclusive_start s ≡ a) (end : range_inclusive_end s ≡ b) (whole : range_inclusive_exhausted s ≡ false) where
  is : numbers s ≡ range_with_len a (b + 1 - a)
  unfolding numbers
  is = let size : left s ≡ b + 1 - a = omega (arith, fresh s whole) in ap (range_with_len (range_inclusive_start s)) size ∙ ap (λ n. range_with_len n (b + 1 - a)) start

  within : (Yes : ℕ → Type 0) → AllWithin Yes (numbers s) 0 (length (numbers s)) → (k : ℕ) → a ≤ k → k ≤ b → Yes k
  within Yes h k lo hi =
      let at : get_or (numbers s) (k - a) 0 ≡ k = omega (arith, ap (λ ns. get_or ns (k - a) 0) is, get_or-range_with_len a (b + 1 - a) (k - a) 0 (omega arith)) in
      subst Yes at (h (k - a) 0 (omega arith) (omega (arith, ap length is, length-range_with_len a (b + 1 - a))))

  all_or : (r : Bool) (Yes No : ℕ → Type 0) → MatchBool r (AllWithin Yes (numbers s) 0 (length (numbers s))) ((k : ℕ) × (k < length (numbers s)) × HoldsAt No (numbers s) k)
      → MatchBool r ((k : ℕ) → a ≤ k → k ≤ b → Yes k) ((k : ℕ) × No k)
  all_or true Yes No h = within Yes h
  all_or false Yes No h = (get_or (numbers s) h.0 0, h.2 0)

  -- what `all` answers: each number passes, or some number fails
  pub all_over : {F : Type 0} {g : Mut F (ℕ × Unit {0}) Bool} (u : RangeInclusive ℕ) (f : F) (r : Bool) (Yes No : ℕ → Type 0) → ChecksAll nat_range_inclusive_steps g s f r u
      → ((x : ℕ) (q : F) → Called g f (x, tt) true q → (q ≡ f) × Yes x) → ((x : ℕ) (q : F) → Called g f (x, tt) false q → No x)
      → MatchBool r ((k : ℕ) → a ≤ k → k ≤ b → Yes k) ((k : ℕ) × No k)
  all_over u f r Yes No d passes fails = all_or r Yes No (cases_from_all u f r Yes No d (yields s) passes fails)

  -- what an adapter takes from it
  pub yields_over : YieldsList nat_range_inclusive_steps (λ x. x) s (range_with_len a (b + 1 - a))
  yields_over = subst (YieldsList nat_range_inclusive_steps (λ x. x) s) is (yields s)
