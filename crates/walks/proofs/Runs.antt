-- The bounded run in the words of walks: from the streets that it may take to walks past no transit node but the root.
use Rattle.std.proofs.Common.{◌≡◌, ℕ, ◌<◌, ◌≤◌, Bool, false, List, [], Some, None, Option, sym, refl, ap, ◌∙◌, inr, ⊎_elim, arith}
use Rattle.std.proofs.lemmas.Bool.{cases_eq, cases_lt}
use Rattle.std.proofs.ByRecursion.{All-weaker}
use Rattle.std.specs.List.{AllByRecursion}
use Rattle.maps.specs.Graph.{Street, Graph, Placed}
use Rattle.lengths.specs.Kinds.{Kind, LawfulKind}
use Rattle.walks.specs.Streets.{run_streets, Coded}
use Rattle.walks.specs.Walks.{Open, BestOpen}
use Rattle.walks.specs.Runs.{Entry, bounded_run, length_of}
use Rattle.walks.specs.Trees.{OnMap}
use Rattle.walks.specs.Claims.{LawfulIsCoded, UsableFrom, RunSound, RunComplete, RunAnswers}
use Rattle.walks.proofs.Facts.{none≢some, same_some, all_both}
use Rattle.walks.proofs.Walks.{walk_on_map}
use Rattle.walks.proofs.Invariant.{Settles}
use Rattle.walks.proofs.Ends.{steps_sound, steps_complete}
use Rattle.walks.proofs.Filters.{walk_sub, length_sub, walk_into, walk_all, run_sub, run_usable, usable_run, run_coded}

pub lawful_is_coded : LawfulIsCoded
lawful_is_coded G h =
    record {
      slots = λ e a q. (slot_above e a q, slot_below e a q);
      tails = λ e a q. let p = at e a q in (p.0, p.1);
      heads = λ e a q. let p = at e a q in (p.2, p.3);
      codes = λ e a q. let p = at e a q in omega arith;
    }
  where
    at : (e : ℕ) (a : Street) → G.street e ≡ Some a → Placed G.junctions (Some a)
    at e a q = rw q at (h.placed e)

    slot_above : (e : ℕ) (a : Street) → G.street e ≡ Some a → 0 < e
    slot_above e a q = ⊎_elim (λ (z : e ≡ 0). absurd (none≢some h.no_zero (rw z at q))) (λ z. omega arith) (cases_eq e 0)

    slot_below : (e : ℕ) (a : Street) → G.street e ≡ Some a → e ≤ G.slots
    slot_below e a q = ⊎_elim (λ z. absurd (none≢some (h.no_more e z) q)) (λ z. z) (cases_lt G.slots e)

pub run_sound : RunSound
run_sound K law G map ns F r v e l s =
    let h = run_streets G ns F r in let sub = run_sub G ns F r in let hm = run_coded G ns F r map in
    let w = steps_sound K law h G.junctions G.slots hm r v (e, l) s in (
      w.way,
      walk_sub h G.street sub r w.way v w.leads,
      walk_all h (UsableFrom G ns F r) (run_usable G ns F r) r w.way v w.leads,
      all_both (λ i. 0 < i) (Settles (bounded_run K G ns F r)) w.way (walk_all h (λ i. 0 < i) (λ i a q. (hm.slots i a q).0) r w.way v w.leads) w.tree,
      sym (length_sub K h G.street sub K.zero r w.way v w.leads) ∙ w.long,
    )

pub run_complete : RunComplete
run_complete K law G map ns F r v w l f =
    let h = run_streets G ns F r in
    let x = walk_into h G.street (UsableFrom G ns F r) (usable_run G ns F r) r w v l f in
    let c = steps_complete K law h G.junctions G.slots (run_coded G ns F r map) r w v x in
    (c.0.0, c.0.1, c.1, rw (length_sub K h G.street (run_sub G ns F r) K.zero r w v x) at c.2)

-- what a run from a junction on the map settles is on the map
pub settled_on_map : (K : Kind) → LawfulKind K → (G : Graph) → Coded G → (ns : List ℕ) (F : ℕ → Bool) (r : ℕ) → OnMap G r
    → (v e l : ℕ) → bounded_run K G ns F r v ≡ Some (e, l) → OnMap G v
settled_on_map K law G map ns F r on v e l s =
    let w = run_sound K law G map ns F r v e l s in
    walk_on_map G.street G.junctions G.slots map r w.0 v w.1 on

pub run_answers : RunAnswers
run_answers K law G map F s t = go (bounded_run K G [] F s t) refl
  where
    all : (w : List ℕ) → Open F w → AllByRecursion (UsableFrom G [] F s) w
    all w o = All-weaker (λ e. F e ≡ false) (UsableFrom G [] F s) (λ e q. (q, λ a _. inr refl)) w o

    go : (x : Option Entry) → bounded_run K G [] F s t ≡ x → BestOpen K G.street F s t (length_of x)
    go None q = λ w l o. none≢some q (run_complete K law G map [] F s t w l (all w o)).2
    go (Some x) q =
        let z = run_sound K law G map [] F s t x.0 x.1 q in (
          (z.0, z.1, All-weaker (UsableFrom G [] F s) (λ e. F e ≡ false) (λ e f. f.0) z.0 z.2, z.4),
          λ w l o. let c = run_complete K law G map [] F s t w l (all w o) in rw (ap (λ (y : Entry). y.1) (same_some c.2 q)) at c.3,
        )
