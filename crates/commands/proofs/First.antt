-- The first line of a text and the others.
use Rattle.std.proofs.Common.{◌≡◌, ℕ, suc, ◌+◌, ◌<◌, ◌≤◌, Bool, true, false, cond, not, eqb, ltb, List, [], ◌∷◌, ◌++◌, length, get_or, take, drop, Option, Some, None, Bor, sym, refl, ap, ◌∙◌, subst, inl, inr, add-one, one-add, arith, length-drop, length-take, true-eqb}
use Rattle.std.proofs.lemmas.Bool.{ltb-true, ltb-false}
use Rattle.std.specs.Option.{unwrap_or}
use Rattle.std.specs.Slice.{IsGetRangeResult}
use Rattle.std.proofs.lemmas.List.{take_all, drop_all, drop-drop}
use Rattle.std.proofs.lemmas.List.Sums.{split_at_first, passes_at_first}
use Rattle.std.proofs.lemmas.Slice.{between_to_end}
use Rattle.commands.specs.Text.{onto, lines_of, before, FirstLine, CutAtEnd}

-- the first line has n bytes, and its end is left out
abbrev Splits : List ℕ → ℕ → Type 0
Splits bs n = lines_of bs ≡ take n bs ∷ lines_of (drop (suc n) bs)

step : (b : ℕ) (bs : List ℕ) (t : Bool) → (0 < length bs → Splits bs (before 10 bs)) → cond t ([] ∷ lines_of bs) (onto b (lines_of bs)) ≡ take (cond (not t) (1 + before 10 bs) 0) (b ∷ bs) ∷ lines_of (drop (suc (cond (not t) (1 + before 10 bs) 0)) (b ∷ bs))
step b bs true ih = refl
step b [] false ih = refl
step b (x ∷ xs) false ih = rw (one-add (before 10 (x ∷ xs))) (ap (onto b) (ih (omega arith)))

splits : (bs : List ℕ) → 0 < length bs → Splits bs (before 10 bs)
splits [] h = absurd (omega arith)
splits (b ∷ bs) h = step b bs (eqb b 10) (splits bs)

-- where the line has an end, that is byte 10
ended : (bs : List ℕ) → before 10 bs < length bs → bs ≡ take (before 10 bs) bs ++ (10 ∷ drop (suc (before 10 bs)) bs)
ended bs h =
    let stops : ℕ → Bool = λ b. eqb b 10 in
    let e : get_or bs (before 10 bs) 0 ≡ 10 = true-eqb _ 10 (sym (passes_at_first stops bs 0 h)) in
    let n : ℕ = before 10 bs in
    subst (λ b. bs ≡ take n bs ++ (b ∷ drop (suc n) bs)) e (subst (λ k. bs ≡ take n bs ++ (get_or bs n 0 ∷ drop k bs)) (add-one n) (split_at_first stops bs 0 h))

-- what `rest.get(1..).unwrap_or(rest)` gives
pub past_end : (rest : Bor (List ℕ)) (tail : Option (Bor (List ℕ))) → IsGetRangeResult rest.now 1 (length rest.now) tail → (unwrap_or tail rest).now ≡ drop 1 rest.now
past_end rest (Some tail) h = h.0.2 ∙ between_to_end rest.now 1 (length rest.now) (omega arith)
past_end rest None h = short rest.now (omega (arith, h.0))
  where
    short : (l : List ℕ) → length l < 1 → l ≡ drop 1 l
    short [] e = refl
    short (b ∷ l) e = absurd (omega arith)

module _ (bs line rest after : List ℕ) (n : ℕ) (is : n ≡ before 10 bs) (front : line ≡ take n bs) (back : rest ≡ drop n bs) (past : after ≡ drop 1 rest) where
  tail : after ≡ drop (suc n) bs
  tail = past ∙ ap (drop 1) back ∙ drop-drop 1 n bs ∙ ap (λ k. drop k bs) (add-one n)

  pub first : 0 < length bs → FirstLine bs line after
  first some = record {
    lines = rw (front, tail) (subst (Splits bs) (sym is) (splits bs some));
    within = rw (front, tail) (simp (length-take, length-drop) (omega arith));
    less = rw tail (simp length-drop (omega arith));
  }

  pub cut : CutAtEnd bs line after
  cut = rw (front, tail) (go (ltb n (length bs)) refl)
    where
      go : (t : Bool) → ltb n (length bs) ≡ t → CutAtEnd bs (take n bs) (drop (suc n) bs)
      go true e = inl (subst (λ k. bs ≡ take k bs ++ (10 ∷ drop (suc k) bs)) (sym is) (ended bs (subst (λ k. k < length bs) is (ltb-true _ _ e))))
      go false e = let out : length bs ≤ n = ltb-false _ _ e in inr (sym (take_all n bs out), drop_all (suc n) bs (omega arith))
