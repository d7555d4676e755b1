-- The rows filled in round by round: one row more, and one position more of a round.
use Rattle.std.proofs.Common.{◌≡◌, ℕ, zero, suc, ◌+◌, ◌<◌, ◌≤◌, Bool, true, false, not, ◌||◌, ◌⊎◌, List, [], ◌∷◌, length, get_or, set, sym, ap, ◌∙◌, subst, ⊎_elim, arith}
use mathlib.Core.Bool.{or-false, or-true}
use Rattle.std.proofs.lemmas.Grind.{common_steps}
use Rattle.std.proofs.lemmas.Bool.{cases_eq, or_left}
use Rattle.std.proofs.lemmas.Bool.Decides.{nat_tests}
use Rattle.walks.specs.Runs.{Table}
use Rattle.walks.specs.Legs.{Legs}
use Rattle.asks.specs.Held.{bit}
use Rattle.legs.specs.declared.Reached.{Reached}
use Rattle.legs.specs.declared.table.LegTable.{LegTable}
use Rattle.legs.specs.Tables.{leg_of}
use Rattle.tables.specs.declared.TreeRecord.{TreeRecord}
use Rattle.tables.specs.Tables.{count_in}
use Rattle.tables.specs.Rows.{with_row}
use Rattle.answering.specs.Handing.{RowsFilled, Round, is_marked, unmarked, is_counted}
use Rattle.answering.proofs.Handed.{at}

-- ---- marks
pub marked_fewer : (ms : List Bool) (p : ℕ) → p < length ms → get_or ms p false ≡ false → unmarked (set ms p true) < unmarked ms
marked_fewer [] p lt h = absurd (omega arith)
marked_fewer (b ∷ bs) zero lt h = let z : bit (not b) ≡ 1 = ap (λ x. bit (not x)) h in omega arith
marked_fewer (b ∷ bs) (suc p) lt h = omega (arith, marked_fewer bs p (omega arith) h)

module _ (ns : List ℕ) (few : length ns ≤ 16) (rs : List TreeRecord) (run : ℕ → Table) where
  -- ---- one row more
  pub filled_more : (ms : List Bool) (p : ℕ) → p < length ms → p < length ns → (count_in rs (p + 1) ≡ 0 → ⊥) → (old D E : Legs) → E ≡ with_row ns (p + 1) (run (get_or ns p 0)) D
      → RowsFilled ns rs run (is_marked ms) old D → RowsFilled ns rs run (is_marked (set ms p true)) old E
  filled_more ms p room below some old D E e h = record {
    filled = λ i j lo hi a b n m. let x = at e i j in let y = h.filled i j lo hi a b n in grind (arith, common_steps, nat_tests);
    sound = λ i j lo z. let x = at e i j in let y = h.sound i j lo z in grind (arith, common_steps, nat_tests);
    start = λ j. let x = at e 0 j in let y = h.start j in grind (arith, nat_tests);
    goal = λ i. let x = at e i 31 in let y = h.goal i in grind (arith, nat_tests);
  }

  -- with other marks for the same positions, or for fewer
  pub filled_fewer : (Q R : ℕ → Bool) → ((i : ℕ) → 0 < i → i ≤ length ns → Q i ≡ true → R i ≡ true) → (old D : Legs) → RowsFilled ns rs run R old D → RowsFilled ns rs run Q old D
  filled_fewer Q R sub old D h =
      record { filled = λ i j lo hi a b n m. h.filled i j lo hi a b n (sub i lo hi m); sound = h.sound; start = h.start; goal = h.goal }

  -- ---- one position more of a round
  module _ (r : Reached) (old : LegTable) (ms : List Bool) (p : ℕ) (D : LegTable) (qs : List Bool) (more : Bool) (h : Round p ns rs run r old D ms qs more) where
    pub round_same : (is_counted r rs (p + 1) ≡ false) ⊎ (get_or qs p false ≡ true) → Round (p + 1) ns rs run r old D ms qs more
    round_same kept = record {
      rows = h.rows;
      marks = λ i lo hi. ⊎_elim
          (λ (q : i ≡ p + 1). subst (λ x. is_marked qs x ≡ (is_marked ms x || is_counted r rs x)) (sym q) (⊎_elim apart marked kept))
          (λ n. h.marks i lo (omega arith))
          (cases_eq i (p + 1));
      later = λ i l. h.later i (omega arith);
      none = h.none;
      some = h.some;
      fewer = h.fewer;
    }
      where
        before : is_marked qs (p + 1) ≡ is_marked ms (p + 1)
        before = h.later (p + 1) (omega arith)

        apart : is_counted r rs (p + 1) ≡ false → is_marked qs (p + 1) ≡ (is_marked ms (p + 1) || is_counted r rs (p + 1))
        apart a = before ∙ sym (ap (λ b. is_marked ms (p + 1) || b) a ∙ or-false (is_marked ms (p + 1)))

        marked : get_or qs p false ≡ true → is_marked qs (p + 1) ≡ (is_marked ms (p + 1) || is_counted r rs (p + 1))
        marked a = let b : is_marked qs (p + 1) ≡ true = grind (arith, common_steps) in b ∙ sym (or_left (is_marked ms (p + 1)) (is_counted r rs (p + 1)) (sym before ∙ b))

    pub round_more : p < length qs → p < length ns → is_counted r rs (p + 1) ≡ true → get_or qs p false ≡ false → (E : LegTable) → leg_of E ≡ with_row ns (p + 1) (run (get_or ns p 0)) (leg_of D)
        → Round (p + 1) ns rs run r old E ms (set qs p true) true
    round_more room below counted fresh E e = record {
      rows = λ X x. filled_more qs p room below some X (leg_of D) (leg_of E) e (h.rows X x);
      marks = λ i lo hi. ⊎_elim
          (λ (q : i ≡ p + 1). subst (λ x. is_marked (set qs p true) x ≡ (is_marked ms x || is_counted r rs x)) (sym q) (rw (counted, or-true) (grind (arith, common_steps))))
          (λ n. let x = h.marks i lo (omega arith) in grind (arith, common_steps))
          (cases_eq i (p + 1));
      later = λ i l. let y = h.later i (omega arith) in grind (arith, common_steps);
      none = λ z. cc;
      some = λ _. omega (arith, marked_fewer qs p room fresh, h.fewer);
      fewer = omega (arith, marked_fewer qs p room fresh, h.fewer);
    }
      where
        some : count_in rs (p + 1) ≡ 0 → ⊥
        some z = grind (arith, nat_tests)
