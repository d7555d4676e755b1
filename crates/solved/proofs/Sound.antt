-- An example that passes its test stands.
use Rattle.std.proofs.Common.{◌≡◌, ℕ, Bool, true, false, cond, ◌&&◌, eqb, List, [], ◌∷◌, Some, None, Ok, Err, Option, refl, subst}
use Rattle.std.specs.List.{AllByRecursion}
use Rattle.std.proofs.lemmas.Slice.Eq.{bytes_eq-Decides}
use Rattle.std.proofs.lemmas.Bool.{and_parts, eqb-true, false≢true}
use Rattle.maps.specs.Graph.{Graph, LawfulMap}
use Rattle.lengths.specs.Kinds.{Kind, LawfulKind}
use Rattle.lengths.specs.Laws.{KindsLawful}
use Rattle.walks.specs.Streets.{empty_set, member, Coded}
use Rattle.walks.specs.Walks.{BestOpen}
use Rattle.walks.specs.Runs.{best_length}
use Rattle.walks.specs.Trees.{tree}
use Rattle.walks.proofs.Runs.{lawful_is_coded, run_answers}
use Rattle.walks.proofs.Trees.{held_at_head}
use Rattle.asks.specs.Redone.{Redone}
use Rattle.asks.specs.Held.{closed_held}
use Rattle.asks.specs.Index.{node_at, tree_at, positions}
use Rattle.asks.specs.Handed.{stored_legs, handed_legs}
use Rattle.asks.proofs.Redoing.{redone_by_lengths}
use Rattle.calls.specs.Moments.{Moment, created, ask_fault, after}
use Rattle.calls.specs.Gives.{RightAnswer, Gives}
use Rattle.calls.specs.Lives.{Life, after_all}
use Rattle.calls.specs.Fitting.{FitsMap}
use Rattle.calls.specs.declared.Fault.{Fault}
use Rattle.calls.specs.declared.Fault.TheVariants.{StateLacks}
use Rattle.calls.specs.declared.Call.{Call}
use Rattle.calls.specs.declared.Call.TheVariants.{Name, Build, Close, Reopen, Ask, Tally, Replan}
use Rattle.calls.specs.declared.Answer.TheVariants.{Refused}
use Rattle.calls.proofs.Fitting.{fits_after, fits_created, lives_fit, zero_open}
use Rattle.solved.specs.Rows.{map_of, Says, Measure, in_paces, in_gates, kind_of, calls_of, answers_of, Row, refused, says, settles, holds, kept, indexed, stored, handed, asked, lived, file_of, number_of, Asked, OfMap, Stands}
use Rattle.solved.proofs.Same.{same_length_lem, same_entry_lem, same_length, same_answers_lem}
use Rattle.solved.proofs.Tested.{every, is_judged, redone_by, is_none, asked_so, ask_answer, answer_to, answers_to, tests_map, test}
use Rattle.solved.proofs.Accepted.{judged_so, lawful_map, says_own}
use Rattle.solved.proofs.Streets.{is_written, holds_just}

kind_lawful : KindsLawful → (K : Measure) → LawfulKind (kind_of K)
kind_lawful law in_paces = law.0
kind_lawful law in_gates = law.1

is_none_lem : (o : Option Fault) → is_none o ≡ true → o ≡ None
is_none_lem None h = refl
is_none_lem (Some f) h = absurd (false≢true h)

-- ---- asks and lives
module _ (K : Kind) (law : LawfulKind K) (G : Graph) (map : LawfulMap G) where
  coded : Coded G
  coded = lawful_is_coded G map

  best : (m : Moment) (s t : ℕ) → BestOpen K G.street m.closed s t (best_length K G m.closed s t)
  best m s t = run_answers K law G coded m.closed s t

  redone : (m : Moment) → FitsMap G m → (s : ℕ) → Redone K G m.listed m.closed s (redone_by K G m s)
  redone m fits s =
      redone_by_lengths K law G coded m.listed fits.all_on_map m.closed (zero_open G m map fits) s
      (λ i. best_length K G m.closed s (node_at m.listed i)) (λ i lo hi. best m s (node_at m.listed i))

  asked_so_lem : (m : Moment) → FitsMap G m → (s t : ℕ) (o : Option ℕ) (r : ℕ) → asked_so K G m s t o r ≡ true → Asked K G m s t o r
  asked_so_lem m fits s t o r h =
      let p = and_parts (m.built && is_none (ask_fault G s t) && same_length (best_length K G m.closed s t) o) (eqb (redone_by K G m s) r) h in
      let q = and_parts (m.built && is_none (ask_fault G s t)) (same_length (best_length K G m.closed s t) o) p.0 in
      let w = and_parts m.built (is_none (ask_fault G s t)) q.0 in
      record {
        index = w.0;
        ends = is_none_lem (ask_fault G s t) w.1;
        length = subst (BestOpen K G.street m.closed s t) (same_length_lem (best_length K G m.closed s t) o q.1) (best m s t);
        redone = subst (Redone K G m.listed m.closed s) (eqb-true (redone_by K G m s) r p.1) (redone m fits s);
      }

  right : (m : Moment) → FitsMap G m → (s t : ℕ) (o : Option Fault) → ask_fault G s t ≡ o → RightAnswer K G m s t (ask_answer K G m s t o)
  right m fits s t (Some f) q = (Err f, q, refl)
  right m fits s t None q =
      (Ok (record { length = best_length K G m.closed s t; redone = redone_by K G m s }), (q, (best m s t, redone m fits s)), refl)

  ask_gives : (b : Bool) (m : Moment) → FitsMap G m → (s t : ℕ)
      → cond b (RightAnswer K G m s t (cond b (ask_answer K G m s t (ask_fault G s t)) (Refused StateLacks))) (cond b (ask_answer K G m s t (ask_fault G s t)) (Refused StateLacks) ≡ Refused StateLacks)
  ask_gives true m fits s t = right m fits s t (ask_fault G s t) refl
  ask_gives false m fits s t = refl

  gives : (m : Moment) → FitsMap G m → (c : Call) → Gives K G m c (answer_to K G m c)
  gives m fits (Name v) = refl
  gives m fits Build = refl
  gives m fits (Close e) = refl
  gives m fits (Reopen e) = refl
  gives m fits (Ask s t) = ask_gives m.built m fits s t
  gives m fits Tally = refl
  gives m fits Replan = refl

  life : (cs : List Call) (m : Moment) → FitsMap G m → Life K G m cs (answers_to K G m cs)
  life [] m fits = tt
  life (c ∷ cs) m fits = (gives m fits c, life cs (after G m c) (fits_after G m c fits))

-- ---- rows
of_map : KindsLawful → (r : Row) → is_judged (file_of r) (number_of r) ≡ true → tests_map r ≡ true → OfMap r
of_map law (refused f k) j h = tt
of_map law (says f n os) j h = subst (Says f) (is_written (map_of f) (lawful_map f j) n os h) (says_own f j)
of_map law (settles K f ns u v e l) j h = same_entry_lem (tree (kind_of K) (map_of f) ns u v) (Some (e, l)) h
of_map law (holds K f ns u es) j h =
    let map = lawful_is_coded (map_of f) (lawful_map f j) in
    holds_just (map_of f) map (tree (kind_of K) (map_of f) ns u) (held_at_head (kind_of K) (kind_lawful law K) (map_of f) map ns empty_set u) es h
of_map law (kept K f ns F i k) j h = eqb-true (closed_held (member F) (tree_at (kind_of K) (map_of f) ns i) (map_of f).junctions) k h
of_map law (indexed K f ns e ps) j h = (bytes_eq-Decides (positions (kind_of K) (map_of f) ns e) ps).0 h
of_map law (stored K f ns i k o) j h = same_length_lem (stored_legs (kind_of K) (map_of f) ns i k) o h
of_map law (handed K f ns F s t i k o) j h = same_length_lem (handed_legs (kind_of K) (map_of f) ns (member F) s t i k) o h
of_map law (asked K f cs s t o r) j h =
    asked_so_lem (kind_of K) (kind_lawful law K) (map_of f) (lawful_map f j) (after_all (map_of f) created cs) (lives_fit (map_of f) cs) s t o r h
of_map law (lived K f xs) j h =
    subst (Life (kind_of K) (map_of f) created (calls_of xs)) (same_answers_lem (answers_to (kind_of K) (map_of f) created (calls_of xs)) (answers_of xs) h)
    (life (kind_of K) (kind_lawful law K) (map_of f) (lawful_map f j) (calls_of xs) created (fits_created (map_of f)))

pub stands : KindsLawful → (r : Row) → test r ≡ true → Stands r
stands law r h =
    let p = and_parts (is_judged (file_of r) (number_of r)) (tests_map r) h in
    record { file = judged_so (file_of r) (number_of r) p.0; map = of_map law r p.0 p.1 }

pub all_stand : KindsLawful → (rs : List Row) → every test rs ≡ true → AllByRecursion Stands rs
all_stand law [] h = tt
all_stand law (r ∷ rs) h = let p = and_parts (test r) (every test rs) h in (stands law r p.0, all_stand law rs p.1)
