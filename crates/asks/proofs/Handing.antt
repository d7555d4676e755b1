-- The legs that an ask hands to the search are those of the map without the closed streets.
use Rattle.std.proofs.Common.{◌≡◌, ℕ, ◌-◌, ◌<◌, ◌≤◌, Bool, true, false, cond, not, ◌&&◌, eqb, leb, List, length, Option, sym, refl, ap, ◌∙◌, subst, ⊎_elim, arith}
use mathlib.Core.Path.{fun_ext}
use Rattle.std.proofs.lemmas.Bool.{cases_Bool, cond-true, and_parts, and_from, eqb-false, ne_eqb, leb-true, le-leb}
use Rattle.std.proofs.ByRecursion.{All-get_or}
use Rattle.std.specs.List.{AllByRecursion}
use Rattle.maps.specs.Graph.{Graph, reversed}
use Rattle.lengths.specs.Kinds.{Kind, LawfulKind}
use Rattle.walks.specs.Streets.{empty_set, Coded}
use Rattle.walks.specs.Walks.{BestOpen}
use Rattle.walks.specs.Runs.{length_of, bounded_run}
use Rattle.walks.specs.Trees.{OnMap, Affected}
use Rattle.walks.specs.Legs.{Legs, grid, Target, junction_of, leg_between, legs_of}
use Rattle.walks.specs.Claims.{SameReach}
use Rattle.walks.proofs.Unaffected.{unaffected_keeps}
use Rattle.walks.proofs.Legs.{between_is, legs_answer, reached_by_legs}
use Rattle.asks.specs.Held.{is_affected}
use Rattle.asks.specs.Index.{node_at, tree_at}
use Rattle.asks.specs.Handed.{is_position, stored_legs, position_leg, access_leg, egress_leg, handed_legs}
use Rattle.asks.specs.Claims.{HandedAreLegs, HandedAnswer, HandedReach}
use Rattle.asks.proofs.Numbers.{test_unaffected}

-- ---- positions
pub position_true : (k i : ℕ) → 0 < i → i ≤ k → is_position k i ≡ true
position_true k i lo hi = and_from (leb 1 i) (leb i k) (le-leb 1 i (omega arith)) (le-leb i k hi)

pub position_is : (k i : ℕ) → is_position k i ≡ true → (0 < i) × (i ≤ k)
position_is k i h = let p = and_parts (leb 1 i) (leb i k) h in (let q = leb-true 1 i p.0 in omega arith, leb-true i k p.1)

-- a position's node is on the map
pub node_on_map : (G : Graph) (ns : List ℕ) → AllByRecursion (OnMap G) ns → (i : ℕ) → 0 < i → i ≤ length ns → OnMap G (node_at ns i)
node_on_map G ns on i lo hi = All-get_or (OnMap G) ns (i - 1) 0 (omega arith) on

-- a node that is neither the start nor the goal stands for its position's junction
pub position_junction : (ns : List ℕ) (s t i : ℕ) → 0 < i → (i ≡ 31 → ⊥) → junction_of ns s t i ≡ node_at ns i
position_junction ns s t i lo n = rw (ne_eqb i 0 (omega arith), ne_eqb i 31 n)

-- ---- legs
-- a stored leg is a length in its position's tree
pub stored_is : (K : Kind) (G : Graph) (ns : List ℕ) (i j : ℕ) → 0 < i → i ≤ length ns → 0 < j → j ≤ length ns → (i ≡ j → ⊥)
    → stored_legs K G ns i j ≡ length_of (tree_at K G ns i (node_at ns j))
stored_is K G ns i j a b c d n =
    let k = length ns in
    rw (position_true k i a b, position_true k j c d, ne_eqb i j n)

module _ (K : Kind) (law : LawfulKind K) (G : Graph) (map : Coded G) (ns : List ℕ) (on : AllByRecursion (OnMap G) ns) (F : ℕ → Bool) where
  -- a leg between positions is a length of the run without the closed streets
  pub position_leg_is : (i j : ℕ) → 0 < i → i ≤ length ns → 0 < j → j ≤ length ns → (i ≡ j → ⊥)
      → position_leg K G ns F i j ≡ length_of (bounded_run K G ns F (node_at ns i) (node_at ns j))
  position_leg_is i j a b c d n = go (is_affected F (tree_at K G ns i) G.junctions) refl
    where
      free : is_affected F (tree_at K G ns i) G.junctions ≡ false → Affected F (tree_at K G ns i) → ⊥
      free = test_unaffected K law G map ns (node_at ns i) (node_on_map G ns on i a b) F

      go : (x : Bool) → is_affected F (tree_at K G ns i) G.junctions ≡ x
          → cond x (length_of (bounded_run K G ns F (node_at ns i) (node_at ns j))) (stored_legs K G ns i j) ≡ length_of (bounded_run K G ns F (node_at ns i) (node_at ns j))
      go true q = refl
      go false q = stored_is K G ns i j a b c d n ∙ unaffected_keeps K law G map ns F (node_at ns i) (free q) (node_at ns j)

  module _ (few : length ns ≤ 16) (s t : ℕ) where
    abbrev place : ℕ → ℕ
    place = junction_of ns s t

    access_is : (j : ℕ) → Target (length ns) j → access_leg K G ns F s t j ≡ length_of (bounded_run K G ns F s (place j))
    access_is j h = let n : eqb j 0 ≡ false = ne_eqb j 0 (⊎_elim (λ p q. omega arith) (λ (p : j ≡ 31) q. omega arith) h) in rw n

    inner : (i j : ℕ) → i ≤ length ns → Target (length ns) j → (i ≡ j → ⊥)
        → cond (eqb i 0) (access_leg K G ns F s t j) (cond (eqb j 31) (egress_leg K G ns F t i) (position_leg K G ns F i j))
        ≡ cond (eqb j 31 && not (eqb i 0)) (length_of (bounded_run K (reversed G) ns F t (place i))) (length_of (bounded_run K G ns F (place i) (place j)))
    inner i j hi hj n = go (eqb i 0) (eqb j 31) refl refl
      where
        along : ℕ → ℕ → Option ℕ
        along u v = length_of (bounded_run K G ns F u v)

        against : ℕ → Option ℕ
        against v = length_of (bounded_run K (reversed G) ns F t v)

        first : eqb i 0 ≡ true → access_leg K G ns F s t j ≡ along (place i) (place j)
        first p = access_is j hj ∙ ap (λ (u : ℕ). along u (place j)) (sym (cond-true (eqb i 0) s (cond (eqb i 31) t (node_at ns i)) p))

        at : eqb i 0 ≡ false → place i ≡ node_at ns i
        at p = let q = eqb-false i 0 p in position_junction ns s t i (omega arith) (omega arith)

        last : eqb i 0 ≡ false → eqb j 31 ≡ false → position_leg K G ns F i j ≡ along (place i) (place j)
        last p q =
            let x = eqb-false i 0 p in
            let c : (0 < j) × (j ≤ length ns) = ⊎_elim (λ y. y) (λ (y : j ≡ 31). absurd (eqb-false j 31 q y)) hj in
            position_leg_is i j (omega arith) hi c.0 c.1 n
            ∙ ap (λ (u : ℕ). along u (node_at ns j)) (sym (at p))
            ∙ ap (λ (v : ℕ). along (place i) v) (sym (position_junction ns s t j c.0 (eqb-false j 31 q)))

        go : (a b : Bool) → eqb i 0 ≡ a → eqb j 31 ≡ b
            → cond a (access_leg K G ns F s t j) (cond b (egress_leg K G ns F t i) (position_leg K G ns F i j)) ≡ cond (b && not a) (against (place i)) (along (place i) (place j))
        go true true p q = first p
        go true false p q = first p
        go false true p q = ap against (sym (at p))
        go false false p q = last p q

    pub handed_same : (i j : ℕ) → handed_legs K G ns F s t i j ≡ legs_of K G ns F s t i j
    handed_same i j =
        ⊎_elim
        (λ (h : leg_between (length ns) i j ≡ true). let b = between_is (length ns) i j h in rw h (inner i j b.0 b.1 b.2))
        (λ (h : leg_between (length ns) i j ≡ false). rw h)
        (cases_Bool (leg_between (length ns) i j))

    pub handed_whole : handed_legs K G ns F s t ≡ legs_of K G ns F s t
    handed_whole = fun_ext (λ i. fun_ext (λ j. handed_same i j))

pub handed_are_legs : HandedAreLegs
handed_are_legs K law G map ns on few F s t i j = handed_same K law G map ns on F few s t i j

pub handed_answer : HandedAnswer
handed_answer K law G map ns on few F s t q hq a h =
    legs_answer K law G map ns few F s t q hq a (subst (λ (D : Legs). BestOpen K (grid D) empty_set 0 q a) (handed_whole K law G map ns on F few s t) h)

pub handed_reach : HandedReach
handed_reach K law G map ns on few F s t q hq =
    subst (λ (D : Legs). SameReach G.street (grid D) F s (junction_of ns s t q) q) (sym (handed_whole K law G map ns on F few s t)) (reached_by_legs K law G map ns few F s t q hq)
