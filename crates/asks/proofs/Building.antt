-- One junction or one position more: what the loops that count closed streets and write the inverted index take a step by.
use Rattle.std.proofs.Common.{◌≡◌, ℕ, zero, suc, ◌+◌, ◌<◌, ◌≤◌, Bool, true, false, cond, ◌||◌, List, [], ◌∷◌, ◌++◌, Some, None, filter, refl, ⊎_elim, add-one, arith}
use Rattle.std.proofs.lemmas.Bool.{cases_Bool, both_ways, or_cases, or_left, or_right}
use Rattle.std.proofs.ByRecursion.{all_kept_by}
use Rattle.std.specs.List.{range_with_len, AllByRecursion}
use Rattle.maps.specs.Graph.{Graph}
use Rattle.lengths.specs.Kinds.{Kind, LawfulKind}
use Rattle.walks.specs.Streets.{empty_set, Coded}
use Rattle.walks.specs.Runs.{Table}
use Rattle.walks.specs.Trees.{OnMap, tree, Holds, slot_in, slot_is, holds_street}
use Rattle.walks.proofs.Facts.{le_more}
use Rattle.walks.proofs.Runs.{settled_on_map}
use Rattle.asks.specs.Held.{bit, closed_held}
use Rattle.asks.specs.Index.{tree_at, positions_up_to}
use Rattle.asks.specs.Reached.{passing}
use Rattle.asks.proofs.Heads.{slot_some, slot_made, one_head, tree_holds}
use Rattle.asks.proofs.Positions.{positions_more}

-- ---- counts
pub closed_held_next : (F : ℕ → Bool) (T : Table) (k : ℕ) → closed_held F T (k + 1) ≡ closed_held F T k + bit (slot_in F (T (k + 1)))
closed_held_next F T k = rw add-one

pub passing_next : (q : ℕ → Bool) (k : ℕ) → passing q (k + 1) ≡ passing q k + bit (q (k + 1))
passing_next q k = rw add-one

-- ---- the inverted index, position by position
module _ (K : Kind) (G : Graph) (ns : List ℕ) where
  pub positions_next : (k e : ℕ) → positions_up_to K G ns (k + 1) e ≡ positions_up_to K G ns k e ++ cond (holds_street G (tree_at K G ns (k + 1)) e) ((k + 1) ∷ []) []
  positions_next k e = rw add-one (positions_more K G ns k e)

  pub positions_within : (k e : ℕ) → AllByRecursion (λ i. (0 < i) × (i ≤ k)) (positions_up_to K G ns k e)
  positions_within k e = all_kept_by (λ i. holds_street G (tree_at K G ns i) e) (λ i. (0 < i) × (i ≤ k)) (range_with_len 1 k) (within 1 k k (omega arith) (omega arith))
    where
      within : (a n k : ℕ) → 0 < a → a + n ≤ k + 1 → AllByRecursion (λ i. (0 < i) × (i ≤ k)) (range_with_len a n)
      within a zero k lo hi = tt
      within a (suc n) k lo hi = ((lo, omega arith), within (a + 1) n k (omega arith) (omega arith))

  -- an absent slot has no positions
  pub positions_absent : (k e : ℕ) → G.street e ≡ None → positions_up_to K G ns k e ≡ []
  positions_absent k e h = none (range_with_len 1 k)
    where
      none : (xs : List ℕ) → filter (λ i. holds_street G (tree_at K G ns i) e) xs ≡ []
      none [] = refl
      none (x ∷ xs) = rw h (none xs)

-- ---- the inverted index, junction by junction
-- the test whether one of junctions 1 to k is settled by slot e
abbrev pub settled_up_to : Table → ℕ → ℕ → Bool
settled_up_to T zero e = false
settled_up_to T (suc k) e = slot_is e (T (suc k)) || settled_up_to T k e

pub settled_next : (T : Table) (k e : ℕ) → settled_up_to T (k + 1) e ≡ (slot_is e (T (k + 1)) || settled_up_to T k e)
settled_next T k e = rw add-one

settled_some : (T : Table) (k e : ℕ) → settled_up_to T k e ≡ true → (v : ℕ) × (v ≤ k) × (slot_is e (T v) ≡ true)
settled_some T zero e h = absurd (both_ways false refl h)
settled_some T (suc k) e h =
    ⊎_elim (λ p. (suc k, omega arith, p)) (λ p. let r = settled_some T k e p in (r.0, omega arith, r.2)) (or_cases (slot_is e (T (suc k))) (settled_up_to T k e) h)

settled_made : (T : Table) (k e v : ℕ) → 0 < v → v ≤ k → slot_is e (T v) ≡ true → settled_up_to T k e ≡ true
settled_made T zero e v lo hi h = absurd (omega arith)
settled_made T (suc k) e v lo hi h =
    ⊎_elim (λ j. or_right (slot_is e (T (suc k))) (settled_up_to T k e) (settled_made T k e v lo j h))
    (λ (j : v ≡ suc k). or_left (slot_is e (T (suc k))) (settled_up_to T k e) (rw j at h)) (le_more v k hi)

module _ (K : Kind) (law : LawfulKind K) (G : Graph) (map : Coded G) (ns : List ℕ) (v : ℕ) where
  -- no earlier junction is settled by the slot of a later one
  pub settled_fresh : (k u e l : ℕ) → k < u → 0 < e → tree K G ns v u ≡ Some (e, l) → settled_up_to (tree K G ns v) k e ≡ false
  settled_fresh k u e l below pos s =
      ⊎_elim
      (λ p.
      let r = settled_some (tree K G ns v) k e p in
      let x = slot_some e (tree K G ns v r.0) r.2 in
      absurd (omega (arith, one_head K law G map ns v e r.0 u x.0 l pos x.1 s)))
      (λ p. p) (cases_Bool (settled_up_to (tree K G ns v) k e))

  -- over all junctions it is the test whether the tree holds the street
  pub settled_all : OnMap G v → (e : ℕ) → 0 < e → settled_up_to (tree K G ns v) G.junctions e ≡ holds_street G (tree K G ns v) e
  settled_all on e pos = go (settled_up_to T G.junctions e) (holds_street G T e) refl refl
    where
      T : Table
      T = tree K G ns v

      held : settled_up_to T G.junctions e ≡ true → Holds T e
      held p = let r = settled_some T G.junctions e p in let x = slot_some e (T r.0) r.2 in (pos, (r.0, x.0, x.1))

      found : Holds T e → settled_up_to T G.junctions e ≡ true
      found h =
          let x = h.1 in
          let o = settled_on_map K law G map ns empty_set v on x.0 e x.1 x.2 in
          settled_made T G.junctions e x.0 o.0 o.1 (slot_made e x.1 (T x.0) x.2)

      go : (a b : Bool) → settled_up_to T G.junctions e ≡ a → holds_street G T e ≡ b → a ≡ b
      go true true p q = refl
      go false false p q = refl
      go true false p q = absurd ((tree_holds K law G map ns v e).1 q (held p))
      go false true p q = absurd (both_ways (settled_up_to T G.junctions e) p (found ((tree_holds K law G map ns v e).0 q)))
