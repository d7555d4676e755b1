-- The inverted index has a position for a street exactly if the tree there holds the street, and its positions rise.
use Rattle.std.proofs.Common.{◌≡◌, ℕ, zero, suc, ◌+◌, ◌<◌, ◌≤◌, Bool, true, false, cond, ◌&&◌, ◌||◌, eqb, List, [], ◌∷◌, ◌++◌, map, length, filter, sym, refl, ap, ◌∙◌, ⊎_elim, arith}
use Rattle.std.proofs.lemmas.Bool.{cases_Bool, eqb-true, eqb-false, or_cases, or_parts, true≢false, false≢true}
use Rattle.std.proofs.lemmas.List.FromFn.{length-range_with_len}
use Rattle.std.proofs.lemmas.List.Elements.{filter-append}
use Rattle.std.proofs.ByRecursion.{all_kept_by}
use Rattle.std.specs.List.{range_with_len, AllByRecursion}
use Rattle.maps.specs.Graph.{Graph}
use Rattle.lengths.specs.Kinds.{Kind, LawfulKind}
use Rattle.walks.specs.Streets.{member, Coded}
use Rattle.walks.specs.Trees.{Tells, Holds, holds_street}
use Rattle.asks.specs.Index.{node_at, tree_at, positions_up_to, Rising}
use Rattle.asks.specs.Claims.{IndexInverts}
use Rattle.asks.proofs.Counting.{tells_both}
use Rattle.asks.proofs.Heads.{tree_holds}

-- ---- what a filter keeps
member_kept : (p : ℕ → Bool) (xs : List ℕ) (i : ℕ) → member (filter p xs) i ≡ (p i && member xs i)
member_kept p [] i = go (p i)
  where
    go : (b : Bool) → false ≡ (b && false)
    go true = refl
    go false = refl
member_kept p (x ∷ xs) i = go (p x) refl (member_kept p xs i)
  where
    more : (b c : Bool) → (eqb x i ≡ true → b ≡ true) → (eqb x i || (b && c)) ≡ (b && (eqb x i || c))
    more true c h = refl
    more false c h = ⊎_elim (λ (y : eqb x i ≡ true). absurd (false≢true (h y))) (λ (y : eqb x i ≡ false). rw y) (cases_Bool (eqb x i))

    less : (b c : Bool) → (eqb x i ≡ true → b ≡ false) → (b && c) ≡ (b && (eqb x i || c))
    less false c h = refl
    less true c h = ⊎_elim (λ (y : eqb x i ≡ true). absurd (true≢false (h y))) (λ (y : eqb x i ≡ false). rw y) (cases_Bool (eqb x i))

    go : (b : Bool) → p x ≡ b → member (filter p xs) i ≡ (p i && member xs i) → member (cond b (x ∷ filter p xs) (filter p xs)) i ≡ (p i && (eqb x i || member xs i))
    go true q r = ap (λ (c : Bool). eqb x i || c) r ∙ more (p i) (member xs i) (λ y. ap p (sym (eqb-true x i y)) ∙ q)
    go false q r = r ∙ less (p i) (member xs i) (λ y. ap p (sym (eqb-true x i y)) ∙ q)

pub member_counting : (a n i : ℕ) → Tells (member (range_with_len a n) i) ((a ≤ i) × (i < a + n))
member_counting a zero i = (λ h. absurd (false≢true h), λ h x. omega arith)
member_counting a (suc n) i =
    let r = member_counting (a + 1) n i in (
      λ h. ⊎_elim (λ p. let e = eqb-true a i p in (omega arith, omega arith)) (λ p. let x = r.0 p in (omega arith, omega arith)) (or_cases (eqb a i) (member (range_with_len (a + 1) n) i) h),
      λ h x.
          let p = or_parts (eqb a i) (member (range_with_len (a + 1) n) i) h in
          let n = eqb-false a i p.0 in
          r.1 p.1 (omega (arith, x.0, x.1), omega (arith, x.0, x.1)),
    )

rising_kept : (p : ℕ → Bool) (xs : List ℕ) → Rising xs → Rising (filter p xs)
rising_kept p [] h = tt
rising_kept p (x ∷ xs) h = go (p x) (rising_kept p xs h.1)
  where
    go : (b : Bool) → Rising (filter p xs) → Rising (cond b (x ∷ filter p xs) (filter p xs))
    go true r = (all_kept_by p (λ y. x < y) xs h.0, r)
    go false r = r

counting_above : (a b n : ℕ) → a < b → AllByRecursion (λ y. a < y) (range_with_len b n)
counting_above a b zero h = tt
counting_above a b (suc n) h = (h, counting_above a (b + 1) n (omega arith))

rising_counting : (a n : ℕ) → Rising (range_with_len a n)
rising_counting a zero = tt
rising_counting a (suc n) = (counting_above a (a + 1) n (omega arith), rising_counting (a + 1) n)

pub length_kept_le : (p : ℕ → Bool) (xs : List ℕ) → length (filter p xs) ≤ length xs
length_kept_le p [] = omega arith
length_kept_le p (x ∷ xs) = go (p x) (length_kept_le p xs)
  where
    go : (b : Bool) → length (filter p xs) ≤ length xs → length (cond b (x ∷ filter p xs) (filter p xs)) ≤ suc (length xs)
    go true h = omega arith
    go false h = omega arith

counting_more : (a n : ℕ) → range_with_len a (suc n) ≡ range_with_len a n ++ (a + n) ∷ []
counting_more a zero = let z : a ≡ a + 0 = omega arith in ap (λ (x : ℕ). x ∷ []) z
counting_more a (suc n) =
    let z : a + 1 + n ≡ a + suc n = omega arith in
    ap (λ (xs : List ℕ). a ∷ xs) (counting_more (a + 1) n ∙ ap (λ (x : ℕ). range_with_len (a + 1) n ++ x ∷ []) z)

-- ---- the inverted index
module _ (K : Kind) (G : Graph) (ns : List ℕ) where
  -- one more position, for a loop over the trees
  pub positions_more : (k e : ℕ) → positions_up_to K G ns (suc k) e ≡ positions_up_to K G ns k e ++ cond (holds_street G (tree_at K G ns (suc k)) e) (suc k ∷ []) []
  positions_more k e =
      let p : ℕ → Bool = λ i. holds_street G (tree_at K G ns i) e in
      let z : 1 + k ≡ suc k = omega arith in
      ap (filter p) (counting_more 1 k ∙ ap (λ (x : ℕ). range_with_len 1 k ++ x ∷ []) z) ∙ filter-append p (range_with_len 1 k) (suc k ∷ [])

  pub positions_few : (k e : ℕ) → length (positions_up_to K G ns k e) ≤ k
  positions_few k e = omega (arith, length_kept_le (λ i. holds_street G (tree_at K G ns i) e) (range_with_len 1 k), length-range_with_len 1 k)

  pub positions_rise : (k e : ℕ) → Rising (positions_up_to K G ns k e)
  positions_rise k e = rising_kept (λ i. holds_street G (tree_at K G ns i) e) (range_with_len 1 k) (rising_counting 1 k)

  pub positions_tell : LawfulKind K → Coded G → (k e i : ℕ) → Tells (member (positions_up_to K G ns k e) i) ((0 < i) × (i ≤ k) × Holds (tree_at K G ns i) e)
  positions_tell law map k e i =
      let p : ℕ → Bool = λ j. holds_street G (tree_at K G ns j) e in
      let b = tree_holds K law G map ns (node_at ns i) e in
      let c = member_counting 1 k i in
      let m = member_kept p (range_with_len 1 k) i in
      let t = tells_both (p i) (member (range_with_len 1 k) i) (Holds (tree_at K G ns i) e) ((1 ≤ i) × (i < 1 + k)) b c in (
        λ h. let y = t.0 (sym m ∙ h) in (omega (arith, y.1.0), omega (arith, y.1.1), y.0),
        λ h x. t.1 (sym m ∙ h) (x.2, (omega (arith, x.0), omega (arith, x.1))),
      )

pub index_inverts : IndexInverts
index_inverts K law G map ns e =
    record { has = positions_tell K G ns law map (length ns) e; rises = positions_rise K G ns (length ns) e; few = positions_few K G ns (length ns) e }
