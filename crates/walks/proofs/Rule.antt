-- The run as defined follows the rule, and the rule has no other run.
use Rattle.std.proofs.Common.{◌≡◌, ℕ, zero, suc, ◌<◌, ◌≤◌, Bool, List, Some, None, Option, sym, refl, ap, ◌∙◌, subst, ap₂, ⊎_elim, arith}
use mathlib.Core.Path.{fun_ext}
use Rattle.std.proofs.lemmas.Bool.{cases_lt, cases_eq, cases_Bool, both_ways}
use Rattle.std.proofs.lemmas.Map.{update_here, update_apart}
use Rattle.maps.specs.Graph.{Graph}
use Rattle.lengths.specs.Kinds.{Kind, LawfulKind, Code}
use Rattle.walks.specs.Streets.{Streets, run_streets, Coded, CodedStreets}
use Rattle.walks.specs.Runs.{Table, Candidate, candidate_at, best_up_to, settle, table_after}
use Rattle.walks.specs.Rule.{LooksAt, Step, Ended, Steps}
use Rattle.walks.specs.Claims.{RunFollowsRule, RuleHasOneRun}
use Rattle.walks.proofs.Facts.{none≢some, same_some}
use Rattle.walks.proofs.Bests.{Best, no_worse_refl}
use Rattle.walks.proofs.Candidates.{candidate_is, candidate_made}
use Rattle.walks.proofs.Invariant.{Invariant}
use Rattle.walks.proofs.Ends.{candidate_code, candidate_slot, best_here, invariant_after, steps_ended, end_one, step_by}
use Rattle.walks.proofs.Filters.{run_sub, run_usable, usable_run, run_coded}

module _ (K : Kind) (G : Graph) (ns : List ℕ) (F : ℕ → Bool) (r : ℕ) where
  -- what a step looks at is a candidate among the streets that the run may take
  pub looks_candidate : (T : Table) (e v l : ℕ) → LooksAt K G ns F r T e v l → candidate_at K (run_streets G ns F r) T e ≡ Some (v, e, l)
  looks_candidate T e v l x =
      candidate_made K (run_streets G ns F r) T e x.street x.tail
      (usable_run G ns F r e x.street (x.outside, λ a p. rw (same_some p x.present) x.leaves) x.present) (rw x.head x.unsettled) x.settled
      ∙ ap₂ (λ (h k : ℕ). Some (h, e, k)) x.head x.joined

  pub candidate_looks : (T : Table) (e : ℕ) (o : Candidate) → candidate_at K (run_streets G ns F r) T e ≡ Some o → LooksAt K G ns F r T e o.0 o.2
  candidate_looks T e o q =
      let f = candidate_is K (run_streets G ns F r) T e o q in
      let p = run_sub G ns F r e f.street f.holds in
      let h = run_usable G ns F r e f.street f.holds in
      record {
        street = f.street;
        tail = f.tail;
        present = p;
        outside = h.0;
        settled = f.behind;
        leaves = h.1 f.street p;
        head = ap (λ (c : Candidate). c.0) (sym f.is);
        unsettled = rw f.is f.ahead;
        joined = ap (λ (c : Candidate). c.2) (sym f.is);
      }

module _ (K : Kind) (law : LawfulKind K) (G : Graph) (map : Coded G) (ns : List ℕ) (F : ℕ → Bool) (r : ℕ) where
  abbrev g : Streets
  g = run_streets G ns F r

  coded : CodedStreets g G.junctions G.slots
  coded = run_coded G ns F r map

  module _ (T : Table) (k : Invariant K g r T) where
    code : (e : ℕ) (o : Candidate) → candidate_at K g T e ≡ Some o → Code o.2
    code = candidate_code K law g G.junctions G.slots coded r T k

    slot_of : (e : ℕ) (o : Candidate) → candidate_at K g T e ≡ Some o → (0 < e) × (e ≤ G.slots)
    slot_of = candidate_slot K law g G.junctions G.slots coded r T k

    -- settling a best candidate is a step
    best_step : (p : Candidate) → Best K (candidate_at K g T) G.slots (Some p) → Step K G ns F r T (settle T (Some p))
    best_step p h =
        let f = candidate_is K g T h.0 p h.3 in
        record {
          slot = h.0;
          head = p.0;
          total = p.2;
          taken = candidate_looks K G ns F r T h.0 p h.3;
          best = λ e v l x.
              let q = looks_candidate K G ns F r T e v l x in let s = slot_of e (v, e, l) q in
              (h.4 e (v, e, l) s.0 s.1 q).0;
          lowest = λ e v x.
              let q = looks_candidate K G ns F r T e v p.2 x in let s = slot_of e (v, e, p.2) q in
              ⊎_elim (λ lt. absurd (both_ways (K.no_worse p.2 p.2) ((h.4 e (v, e, p.2) s.0 s.1 q).1 lt) (no_worse_refl K law p.2 (code h.0 p h.3))))
              (λ ge. ge) (cases_lt e h.0);
          settles = update_here T p.0 (Some (p.1, p.2)) ∙ ap (λ (i : ℕ). Some (i, p.2)) (ap (λ (c : Candidate). c.1) f.is);
          others = λ v n. update_apart T p.0 (Some (p.1, p.2)) v n;
        }

    -- a step settles a best candidate
    step_best : (U : Table) (x : Step K G ns F r T U) → Best K (candidate_at K g T) G.slots (Some (x.head, x.slot, x.total))
    step_best U x =
        let q = looks_candidate K G ns F r T x.slot x.head x.total x.taken in
        let s = slot_of x.slot (x.head, x.slot, x.total) q in (
          x.slot,
          s.0,
          s.1,
          q,
          λ i o lo hi p.
              let y = candidate_looks K G ns F r T i o p in
              let b = x.best i o.0 o.2 y in (
                b,
                λ lt.
                    ⊎_elim
                    (λ u.
                    let z : x.total ≡ o.2 = law.anti x.total o.2 (code x.slot (x.head, x.slot, x.total) q) (code i o p) b u in
                    absurd (omega (arith, x.lowest i o.0 (subst (λ (l : ℕ). LooksAt K G ns F r T i o.0 l) (sym z) y), lt)))
                    (λ u. u) (cases_Bool (K.no_worse o.2 x.total)),
              ),
        )

    step_settles : (U : Table) (x : Step K G ns F r T U) → U ≡ settle T (Some (x.head, x.slot, x.total))
    step_settles U x = fun_ext (λ v.
        ⊎_elim (λ (z : v ≡ x.head). rw z (x.settles ∙ sym (update_here T x.head (Some (x.slot, x.total)))))
        (λ n. x.others v n ∙ sym (update_apart T x.head (Some (x.slot, x.total)) v n)) (cases_eq v x.head))

    -- one step more, or none where no candidate is left
    steps_more : (j : ℕ) × Steps K G ns F r j T → (b : Option Candidate) → Best K (candidate_at K g T) G.slots b → (j : ℕ) × Steps K G ns F r j (settle T b)
    steps_more y None h = y
    steps_more y (Some p) h = (suc y.0, (T, y.1, best_step p h))

  invariant : (k : ℕ) → Invariant K g r (table_after K g G.slots r k)
  invariant = invariant_after K law g G.junctions G.slots coded r

  -- ---- the run follows the rule
  steps_to : (k : ℕ) → (j : ℕ) × Steps K G ns F r j (table_after K g G.slots r k)
  steps_to zero =
      (0, record { root = update_here (λ _. None) r (Some (0, K.zero)); others = λ v n. update_apart (λ _. None) r (Some (0, K.zero)) v n })
  steps_to (suc k) =
      let T = table_after K g G.slots r k in
      steps_more T (invariant k) (steps_to k) (best_up_to K (candidate_at K g T) G.slots) (best_here K law g G.junctions G.slots coded r T (invariant k))

  -- ---- and the rule has one run
  steps_one : (k : ℕ) (T : Table) → Steps K G ns F r k T → T ≡ table_after K g G.slots r k
  steps_one zero T x = fun_ext (λ v.
      ⊎_elim (λ (z : v ≡ r). rw z (x.root ∙ sym (update_here (λ _. None) r (Some (0, K.zero)))))
      (λ n. x.others v n ∙ sym (update_apart (λ _. None) r (Some (0, K.zero)) v n)) (cases_eq v r))
  steps_one (suc k) T x =
      let A = table_after K g G.slots r k in
      let y = subst (λ (S : Table). Step K G ns F r S T) (steps_one k x.0 x.1) x.2 in
      step_settles A (invariant k) T y ∙ step_by K law g G.junctions G.slots coded r k (Some (y.head, y.slot, y.total)) (step_best A (invariant k) T y)

  ended_none : (T : Table) → Ended K G ns F r T → (b : Option Candidate) → Best K (candidate_at K g T) G.slots b → b ≡ None
  ended_none T end None h = refl
  ended_none T end (Some p) h = absurd (end h.0 p.0 p.2 (candidate_looks K G ns F r T h.0 p h.3))

pub run_follows_rule : RunFollowsRule
run_follows_rule K law G map ns F r =
    let y = steps_to K law G map ns F r G.junctions in (
      y.0,
      y.1,
      λ e v l x.
          none≢some (steps_ended K law (run_streets G ns F r) G.junctions G.slots (run_coded G ns F r map) r e) (looks_candidate K G ns F r (table_after K (run_streets G ns F r) G.slots r G.junctions) e v l x),
    )

pub rule_has_one_run : RuleHasOneRun
rule_has_one_run K law G map ns F r T x v =
    let g = run_streets G ns F r in let n = G.junctions in let m = G.slots in let c = run_coded G ns F r map in
    let A = table_after K g m r x.0 in
    let e = steps_one K law G map ns F r x.0 T x.1 in
    let end = subst (Ended K G ns F r) e x.2 in
    let none = ended_none K law G map ns F r A end (best_up_to K (candidate_at K g A) m) (best_here K law g n m c r A (invariant_after K law g n m c r x.0)) in
    ap (λ (S : Table). S v) (e ∙ sym (end_one K law g n m c r x.0 none))
