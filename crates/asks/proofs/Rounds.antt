-- The legs handed on in rounds: when a round is the last one, and that later rounds reach more.
use Rattle.std.proofs.Common.{◌≡◌, ℕ, ◌<◌, ◌≤◌, Bool, true, false, cond, not, ◌&&◌, eqb, List, length, Some, None, Option, refl, ⊎_elim}
use Rattle.std.proofs.lemmas.Bool.{cases_Bool, both_ways, cond-true, and_parts, and_from, and_left, not-true, not_from_false}
use Rattle.maps.specs.Graph.{Graph}
use Rattle.lengths.specs.Kinds.{Kind}
use Rattle.walks.proofs.Facts.{none≢some}
use Rattle.asks.specs.Held.{is_affected}
use Rattle.asks.specs.Index.{tree_at}
use Rattle.asks.specs.Handed.{is_position, handed_legs, is_left_out, filled_legs}
use Rattle.asks.specs.Claims.{LastRound, RoundsGrow}
use Rattle.asks.proofs.Handing.{position_is}
use Rattle.asks.proofs.Partial.{reach_grows}

-- what it means that a row is left out
pub left_out : (K : Kind) (G : Graph) (ns : List ℕ) (F R : ℕ → Bool) (i : ℕ) → is_left_out K G ns F R i ≡ true
    → (0 < i) × (i ≤ length ns) × (is_affected F (tree_at K G ns i) G.junctions ≡ true) × (R i ≡ false)
left_out K G ns F R i h =
    let x = is_affected F (tree_at K G ns i) G.junctions in
    let a = and_parts (is_position (length ns) i && x) (not (R i)) h in
    let b = and_parts (is_position (length ns) i) x a.0 in
    let p = position_is (length ns) i b.0 in
    (p.0, p.1, b.1, not-true (R i) a.1)

-- a row that is not left out is as handed on
pub row_filled : (K : Kind) (G : Graph) (ns : List ℕ) (F : ℕ → Bool) (s t : ℕ) (R : ℕ → Bool) (i j : ℕ) → is_left_out K G ns F R i ≡ false
    → filled_legs K G ns F s t R i j ≡ handed_legs K G ns F s t i j
row_filled K G ns F s t R i j h = rw (and_left (is_left_out K G ns F R i) (not (eqb j 31)) h)

pub last_round : LastRound
last_round K G ns F s t R all i h j =
    row_filled K G ns F s t R i j
    (⊎_elim (λ p. let x = left_out K G ns F R i p in absurd (both_ways (R i) x.3 (all i x.0 x.1 h x.2))) (λ p. p) (cases_Bool (is_left_out K G ns F R i)))

-- what is present stays so where less is left out
present : (a b : Bool) (o : Option ℕ) (l : ℕ) → (b ≡ true → a ≡ true) → cond a None o ≡ Some l → cond b None o ≡ Some l
present true false o l h p = absurd (none≢some refl p)
present false false o l h p = p
present a true o l h p = absurd (none≢some (cond-true a None o (h refl)) p)

pub rounds_grow : RoundsGrow
rounds_grow K G ns F s t R Q more = reach_grows (filled_legs K G ns F s t R) (filled_legs K G ns F s t Q) leg
  where
    stays : (i j : ℕ) → (is_left_out K G ns F Q i && not (eqb j 31)) ≡ true → (is_left_out K G ns F R i && not (eqb j 31)) ≡ true
    stays i j q =
        let a = and_parts (is_left_out K G ns F Q i) (not (eqb j 31)) q in
        let x = is_position (length ns) i && is_affected F (tree_at K G ns i) G.junctions in
        let b = and_parts x (not (Q i)) a.0 in
        let c = not-true (Q i) b.1 in
        let r : R i ≡ false = ⊎_elim (λ p. absurd (both_ways (Q i) c (more i p))) (λ p. p) (cases_Bool (R i)) in
        and_from (is_left_out K G ns F R i) (not (eqb j 31)) (and_from x (not (R i)) b.0 (not_from_false (R i) r)) a.1

    leg : (i j l : ℕ) → filled_legs K G ns F s t R i j ≡ Some l → filled_legs K G ns F s t Q i j ≡ Some l
    leg i j l = present (is_left_out K G ns F R i && not (eqb j 31)) (is_left_out K G ns F Q i && not (eqb j 31)) (handed_legs K G ns F s t i j) l (stays i j)
