-- The examples of lives: what they answer is worked out.
use Rattle.std.proofs.Common.{◌≡◌, ℕ, zero, suc, ◌^◌, ◌<◌, ◌≤◌, List, [], ◌∷◌, length, Some, None, refl, subst, arith}
use Rattle.std.specs.List.{AllByRecursion}
use Rattle.maps.specs.Graph.{Street, Graph, Placed, LawfulMap}
use Rattle.lengths.specs.Kinds.{Kind, LawfulKind, paces, gates}
use Rattle.lengths.specs.Laws.{KindsLawful}
use Rattle.walks.specs.Examples.{listed, drawn, four_junctions, diamond}
use Rattle.calls.specs.Moments.{created}
use Rattle.calls.specs.Lives.{Life}
use Rattle.calls.specs.Examples as examples
use Rattle.calls.specs.Examples.{Rows, calls_of, answers_of, Lives, Solved}
use Rattle.calls.proofs.Existing.{lives_exist}

-- ---- a drawn map is lawful
no_street : (es : List Street) (e : ℕ) → length es < e → listed es e ≡ None
no_street [] e l = refl
no_street (x ∷ xs) zero l = refl
no_street (x ∷ xs) (suc zero) l = absurd (omega arith)
no_street (x ∷ xs) (suc (suc e)) l = no_street xs (suc e) (omega arith)

all_placed : (n : ℕ) (es : List Street) → AllByRecursion (λ a. Placed n (Some a)) es → (e : ℕ) → Placed n (listed es e)
all_placed n [] h e = tt
all_placed n (x ∷ xs) h zero = tt
all_placed n (x ∷ xs) h (suc zero) = h.0
all_placed n (x ∷ xs) h (suc (suc e)) = all_placed n xs h.1 (suc e)

no_zero : (es : List Street) → listed es 0 ≡ None
no_zero [] = refl
no_zero (x ∷ xs) = refl

pub drawn_lawful : (n : ℕ) (es : List Street) → 0 < n → n ≤ 128 → length es ≤ 512 → AllByRecursion (λ a. Placed n (Some a)) es → LawfulMap (drawn n es)
drawn_lawful n es l m k h =
    record { some_junction = l; few_junctions = m; few_slots = k; no_zero = no_zero es; no_more = no_street es; placed = all_placed n es h }

street_placed : (n v w l : ℕ) → 0 < v → v ≤ n → 0 < w → w ≤ n → l < 2 ^ 32 → Placed n (Some (v, w, l))
street_placed n v w l a b c d e = (a, b, c, d, e)

four_lawful : LawfulMap four_junctions
four_lawful =
    let at = λ (v w l : ℕ). street_placed 4 v w l in
    drawn_lawful 4 ((1, 2, 3) ∷ (2, 4, 4) ∷ (1, 3, 5) ∷ (3, 4, 5) ∷ (4, 1, 1) ∷ []) (omega arith) (omega arith) (omega arith) (
      at 1 2 3 (omega arith) (omega arith) (omega arith) (omega arith) (omega arith),
      (
        at 2 4 4 (omega arith) (omega arith) (omega arith) (omega arith) (omega arith),
        (
          at 1 3 5 (omega arith) (omega arith) (omega arith) (omega arith) (omega arith),
          (
            at 3 4 5 (omega arith) (omega arith) (omega arith) (omega arith) (omega arith),
            (at 4 1 1 (omega arith) (omega arith) (omega arith) (omega arith) (omega arith), tt),
          ),
        ),
      ),
    )

diamond_lawful : LawfulMap diamond
diamond_lawful =
    let at = λ (v w : ℕ). street_placed 4 v w 1 in
    drawn_lawful 4 ((1, 2, 1) ∷ (1, 3, 1) ∷ (2, 4, 1) ∷ (3, 4, 1) ∷ []) (omega arith) (omega arith) (omega arith) (
      at 1 2 (omega arith) (omega arith) (omega arith) (omega arith) (omega arith),
      (
        at 1 3 (omega arith) (omega arith) (omega arith) (omega arith) (omega arith),
        (
          at 2 4 (omega arith) (omega arith) (omega arith) (omega arith) (omega arith),
          (at 3 4 (omega arith) (omega arith) (omega arith) (omega arith) (omega arith), tt),
        ),
      ),
    )

-- ---- lives by computation
-- these answers, if they are those that are worked out
pub worked : (K : Kind) (law : LawfulKind K) (G : Graph) (map : LawfulMap G) (xs : Rows) → (lives_exist K law G map (calls_of xs)).0 ≡ answers_of xs → Lives K G xs
worked K law G map xs e = subst (Life K G created (calls_of xs)) e (lives_exist K law G map (calls_of xs)).1

pub solved : KindsLawful → Solved
solved law =
    record {
      detours = worked paces law.0 four_junctions four_lawful examples.detours refl;
      widest = worked gates law.1 four_junctions four_lawful examples.widest refl;
      survives = worked paces law.0 diamond diamond_lawful examples.survives refl;
      refusals = worked paces law.0 four_junctions four_lawful examples.refusals refl;
      off_first = refl;
      named_next = refl;
      full_last = refl;
      by_plan = refl;
      by_index = refl;
      no_street = refl;
    }
