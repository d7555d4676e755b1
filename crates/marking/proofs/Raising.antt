-- Counts raised or lowered along a rising list of positions.
use Rattle.std.proofs.Common.{◌≡◌, ℕ, zero, suc, ◌+◌, ◌-◌, ◌<◌, ◌≤◌, Bool, true, false, ◌||◌, eqb, List, [], ◌∷◌, ◌++◌, length, get_or, take, set, sym, refl, ap, ◌∙◌, arith}
use mathlib.Core.Bool.{or-false, or_assoc}
use Rattle.std.proofs.ByRecursion.{All-get_or}
use Rattle.std.proofs.lemmas.List.{take_more}
use Rattle.std.proofs.lemmas.Grind.{common_steps}
use Rattle.std.proofs.lemmas.Bool.Decides.{nat_tests}
use Rattle.walks.specs.Streets.{member}
use Rattle.trees.proofs.Tables.{member_found}
use Rattle.asks.specs.Held.{bit}
use Rattle.asks.specs.Index.{Rising}
use Rattle.tables.specs.declared.TreeRecord.{TreeRecord}
use Rattle.tables.specs.Tables.{no_record, count_in}
use Rattle.marking.specs.Marking.{Within, Recounted, HasRoom, next_count}

-- ---- lists of positions
pub member_push : (xs : List ℕ) (p i : ℕ) → member (xs ++ p ∷ []) i ≡ (member xs i || eqb p i)
member_push [] p i = or-false (eqb p i)
member_push (x ∷ xs) p i = ap (λ b. eqb x i || b) (member_push xs p i) ∙ sym (or_assoc (eqb x i) (member xs i) (eqb p i))

-- no number of a rising list stands before its place
pub rising_fresh : (xs : List ℕ) (k : ℕ) → Rising xs → k < length xs → member (take k xs) (get_or xs k 0) ≡ false
rising_fresh [] k h lt = absurd (omega arith)
rising_fresh (x ∷ xs) zero h lt = refl
rising_fresh (x ∷ xs) (suc k) h lt =
    let later = All-get_or (λ y. x < y) xs k 0 (omega arith) h.0 in
    let fresh = rising_fresh xs k h.1 (omega arith) in
    grind (arith, nat_tests)

-- ---- counts
-- a position that is not in the list yet counts as at first
module _ (ps : List ℕ) (p : ℕ) (old mid : List TreeRecord) (lo : 0 < p) (fresh : member ps p ≡ false) where
  room_kept : (b : Bool) → Recounted b ps old mid → HasRoom b (count_in old p) → HasRoom b (count_in mid p)
  room_kept true h room = omega (arith, h.counts p lo, ap bit fresh)
  room_kept false h room = omega (arith, h.counts p lo, ap bit fresh)

  -- its record is set
  recounted_more : (b : Bool) → Recounted b ps old mid → p ≤ length mid → (new : TreeRecord) → new.tree ≡ (get_or mid (p - 1) no_record).tree → HasRoom b (count_in mid p)
      → new.closed ≡ next_count b (count_in mid p) → Recounted b (ps ++ p ∷ []) old (set mid (p - 1) new)
  recounted_more true h hi new same room is = record {
    trees = λ i. let t = h.trees i in grind (arith, common_steps);
    counts = λ i some. let n = h.counts i some in let m = member_push ps p i in grind (arith, common_steps, nat_tests);
  }
  recounted_more false h hi new same room is = record {
    trees = λ i. let t = h.trees i in grind (arith, common_steps);
    counts = λ i some. let n = h.counts i some in let m = member_push ps p i in grind (arith, common_steps, nat_tests);
  }

-- ---- along a row of the inverted index
module _ (ps : List ℕ) (w : Within ps) (k : ℕ) (below : k < length ps) (p : ℕ) (is : p ≡ get_or ps k 0) where
  pub row_within : (0 < p) × (p ≤ 16)
  row_within = rw is (All-get_or (λ i. (0 < i) × (i ≤ 16)) ps k 0 below w.positions)

  fresh : member (take k ps) p ≡ false
  fresh = rw is (rising_fresh ps k w.rising below)

  module _ (b : Bool) (old mid : List TreeRecord) (room : (i : ℕ) → member ps i ≡ true → HasRoom b (count_in old i)) (h : Recounted b (take k ps) old mid) where
    pub row_room : HasRoom b (count_in mid p)
    row_room = room_kept (take k ps) p old mid row_within.0 fresh b h (room p (member_found ps k p below (sym is)))

    pub row_more : 16 ≤ length mid → (new : TreeRecord) → new ≡ record { tree = (get_or mid (p - 1) no_record).tree; closed = next_count b (count_in mid p) }
        → Recounted b (take (k + 1) ps) old (set mid (p - 1) new)
    row_more long new e =
        let hi = row_within.1 in
        rw (take_more ps k 0 below, ← is)
        (recounted_more (take k ps) p old mid row_within.0 fresh b h (omega arith) new (ap (λ r. r.tree) e) row_room (ap (λ r. r.closed) e))
