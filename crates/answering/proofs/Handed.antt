-- The legs that an ask fills in are those that it has to hand on, and what a search over them finds.
use Rattle.std.proofs.Common.{◌≡◌, ℕ, zero, suc, ◌<◌, ◌≤◌, Bool, true, false, cond, eqb, List, length, is_some, None, sym, refl, ap, ◌∙◌, subst, inr, ⊎_elim, arith}
use Rattle.std.proofs.lemmas.Bool.Decides.{nat_tests}
use Rattle.std.proofs.lemmas.Bool.{cases_eq, cases_Bool, ne_eqb, not_from_false, cond-true, cond-false}
use Rattle.std.specs.List.{AllByRecursion}
use Rattle.maps.specs.Graph.{Graph, reversed}
use Rattle.lengths.specs.Kinds.{Kind, LawfulKind}
use Rattle.walks.specs.Streets.{empty_set, Coded}
use Rattle.walks.specs.Walks.{Leads, BestOpen}
use Rattle.walks.specs.Runs.{Table, length_of, bounded_run}
use Rattle.walks.specs.Trees.{OnMap, Tells}
use Rattle.walks.specs.Legs.{Legs, grid, Target, leg_between}
use Rattle.asks.specs.Held.{bit, closed_held}
use Rattle.asks.specs.Index.{node_at, tree_at}
use Rattle.asks.specs.Handed.{stored_legs, position_leg, egress_leg, handed_legs}
use Rattle.asks.specs.Reached.{passing, is_redone}
use Rattle.asks.specs.Claims.{AgreesWhereReached}
use Rattle.asks.specs.Redone.{Redone}
use Rattle.asks.proofs.Handing.{node_on_map}
use Rattle.asks.proofs.Redoing.{partial_handed_answer, redone_by_search}
use Rattle.legs.specs.declared.Reached.{Reached}
use Rattle.legs.specs.declared.table.LegTable.{LegTable}
use Rattle.legs.specs.Tables.{leg_of, length_at}
use Rattle.walks.proofs.Legs.{between_is}
use Rattle.trees.specs.Runs.{run_on}
use Rattle.calls.specs.Moments.{on_map}
use Rattle.tables.specs.declared.TreeRecord.{TreeRecord}
use Rattle.tables.specs.Tables.{count_in}
use Rattle.tables.specs.Rows.{with_row, with_row_to}
use Rattle.answering.specs.Handing.{RowsBlank, EndsHanded, RowsFilled, is_counted}

-- ---- one row
-- a row filled from a tree, for all positions of the list
pub row_filled : (ns xs : List ℕ) (k p : ℕ) (T A : Table) (D E : Legs) → E ≡ with_row_to k xs p T D → k ≡ length ns → xs ≡ ns → T ≡ A → E ≡ with_row ns p A D
row_filled ns xs k p T A D E e a b c =
    e ∙ ap (λ n. with_row_to n xs p T D) a ∙ ap (λ l. with_row_to (length ns) l p T D) b ∙ ap (λ (X : Table). with_row ns p X D) c

-- no leg stands where none may be
pub leg_outside : (t : LegTable) (i j : ℕ) → leg_between t.count i j ≡ false → leg_of t i j ≡ None
unfolding leg_of
leg_outside t i j h = cond-false (leg_between t.count i j) _ None h

pub at : {D E : Legs} → D ≡ E → (i j : ℕ) → D i j ≡ E i j
at e i j = ap (λ (X : Legs). X i j) e

-- ---- junctions on the map
pub on_map_is : (G : Graph) (v : ℕ) → on_map G v ≡ true → OnMap G v
on_map_is G v h = (grind (arith, nat_tests), grind (arith, nat_tests))

pub run_on_map : (K : Kind) (G : Graph) (ns : List ℕ) (F : ℕ → Bool) (v : ℕ) → OnMap G v → run_on K G ns F v ≡ bounded_run K G ns F v
run_on_map K G ns F v h = grind (arith, nat_tests)

-- ---- counts by tests that agree
pub passing_same : (q r : ℕ → Bool) (k : ℕ) → ((i : ℕ) → 0 < i → i ≤ k → q i ≡ r i) → passing q k ≡ passing r k
passing_same q r zero h = refl
passing_same q r (suc k) h =
    let x = passing_same q r k (λ i lo hi. h i lo (omega arith)) in
    let y = ap bit (h (suc k) (omega arith) (omega arith)) in omega (arith, x, y)

-- ---- all legs together
module _ (K : Kind) (G : Graph) (ns : List ℕ) (on : AllByRecursion (OnMap G) ns) (few : length ns ≤ 16) (F : ℕ → Bool) (s t : ℕ) (rs : List TreeRecord)
    (counts : (i : ℕ) → 0 < i → i ≤ length ns → count_in rs i ≡ closed_held F (tree_at K G ns i) G.junctions) (r : Reached) where
  module _ (old mid ended : Legs) (legs : LegTable) (places : legs.count ≡ length ns)
      (stored : (i j : ℕ) → old i j ≡ stored_legs K G ns i j)
      (blank : RowsBlank (length ns) ns rs old mid)
      (ends : EndsHanded ns (bounded_run K G ns F s) (bounded_run K (reversed G) ns F t) t mid ended)
      (rows : RowsFilled ns rs (run_on K G ns F) (is_counted r rs) ended (leg_of legs)) where
    -- the row of a node that is reached is as it has to be
    module _ (i : ℕ) (here : is_some (length_at r i) ≡ true) where
      counted : 0 < i → i ≤ length ns → (count_in rs i ≡ 0 → ⊥) → is_counted r rs i ≡ true
      counted lo hi n = grind (arith, nat_tests)

      between : (j : ℕ) → 0 < i → i ≤ length ns → 0 < j → j ≤ length ns → (i ≡ j → ⊥) → leg_of legs i j ≡ position_leg K G ns F i j
      between j a b c d n = ⊎_elim unaffected affected (cases_eq (count_in rs i) 0)
        where
          unaffected : count_in rs i ≡ 0 → leg_of legs i j ≡ position_leg K G ns F i j
          unaffected z =
              let zero = counts i a b in
              let kept = rows.sound i j a z ∙ ends.stops.between i j a (omega arith) ∙ blank.sound i j a z ∙ stored i j in grind (arith, nat_tests)

          affected : (count_in rs i ≡ 0 → ⊥) → leg_of legs i j ≡ position_leg K G ns F i j
          affected z =
              rows.filled i j a b c d n (counted a b z)
              ∙ ap (λ (T : Table). length_of (T (node_at ns j))) (run_on_map K G ns F (node_at ns i) (node_on_map G ns on i a b))
              ∙ sym (cond-true _ _ _ (not_from_false _ (ne_eqb (closed_held F (tree_at K G ns i) G.junctions) 0 (λ q. z (counts i a b ∙ q)))))

      inner : (j : ℕ) → i ≤ length ns → Target (length ns) j → (i ≡ j → ⊥)
          → leg_of legs i j ≡ cond (eqb i 0) (length_of (bounded_run K G ns F s (cond (eqb j 31) t (node_at ns j)))) (cond (eqb j 31) (egress_leg K G ns F t i) (position_leg K G ns F i j))
      inner j hi target n =
          ⊎_elim
          (λ (p : i ≡ 0). ⊎_elim
          (λ (q : j ≡ 31). rw (p, q) (rows.start 31 ∙ ends.direct))
          (λ q. let c = position q in rw (p, ne_eqb j 31 q) (rows.start j ∙ ends.stops.access j c.0 c.1)) (cases_eq j 31))
          (λ p. ⊎_elim
          (λ (q : j ≡ 31). rw (q, ne_eqb i 0 p) (rows.goal i ∙ ends.stops.egress i (omega arith) hi))
          (λ q. let c = position q in rw (ne_eqb i 0 p, ne_eqb j 31 q) (between j (omega arith) hi c.0 c.1 n)) (cases_eq j 31)) (cases_eq i 0)
        where
          position : (j ≡ 31 → ⊥) → (0 < j) × (j ≤ length ns)
          position q = ⊎_elim (λ y. y) (λ (y : j ≡ 31). absurd (q y)) target

      pub handed_row : (j : ℕ) → leg_of legs i j ≡ handed_legs K G ns F s t i j
      handed_row j =
          ⊎_elim
          (λ (h : leg_between (length ns) i j ≡ true). let b = between_is (length ns) i j h in inner j b.0 b.1 b.2 ∙ sym (cond-true (leg_between (length ns) i j) _ None h))
          (λ (h : leg_between (length ns) i j ≡ false).
          leg_outside legs i j (ap (λ k. leg_between k i j) places ∙ h) ∙ sym (cond-false (leg_between (length ns) i j) _ None h))
          (cases_Bool (leg_between (length ns) i j))

    pub handed_agree : ((v : ℕ) → Tells (is_some (length_at r v)) (Leads (grid (leg_of legs)) empty_set 0 v)) → AgreesWhereReached (leg_of legs) (handed_legs K G ns F s t)
    handed_agree tells i leads = handed_row i (⊎_elim (λ h. h) (λ h. absurd ((tells i).1 h leads)) (cases_Bool (is_some (length_at r i))))

  -- ---- what a search over them finds
  module _ (law : LawfulKind K) (coded : Coded G) (none : F 0 ≡ false) (D : Legs) (same : AgreesWhereReached D (handed_legs K G ns F s t))
      (best : (v : ℕ) → BestOpen K (grid D) empty_set 0 v (length_at r v)) where
    pub found_best : BestOpen K G.street F s t (length_at r 31)
    found_best = partial_handed_answer K law G coded ns on few F s t D same 31 (inr refl) (length_at r 31) (best 31)

    counted_as : (i : ℕ) → 0 < i → i ≤ length ns → is_redone K G ns F (length_at r) i ≡ is_counted r rs i
    counted_as i lo hi = let same = counts i lo hi in grind (arith, nat_tests)

    pub found_redone : Redone K G ns F s (passing (is_counted r rs) (length ns))
    found_redone =
        subst (Redone K G ns F s) (passing_same (is_redone K G ns F (length_at r)) (is_counted r rs) (length ns) counted_as)
        (redone_by_search K law G coded ns on few F none s t D same (length_at r) (λ i _ _. best i))
