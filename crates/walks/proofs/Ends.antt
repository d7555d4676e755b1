-- After as many steps as there are junctions the run has ended.
use Rattle.std.proofs.Common.{◌≡◌, ℕ, zero, suc, ◌+◌, ◌<◌, ◌≤◌, true, ◌⊎◌, List, Some, None, Option, sym, refl, ap, ◌∙◌, inl, inr, ⊎_elim, arith}
use Rattle.std.proofs.lemmas.Bool.{cases_lt}
use Rattle.lengths.specs.Kinds.{Kind, LawfulKind, Code}
use Rattle.walks.specs.Streets.{Streets, CodedStreets}
use Rattle.walks.specs.Walks.{Walk, walk_length}
use Rattle.walks.specs.Runs.{Entry, Table, Candidate, candidate_at, best_up_to, settle, next_table, first_table, table_after}
use Rattle.walks.proofs.Facts.{le_more}
use Rattle.walks.proofs.Bests.{Best, best_up_to_lem, best_unique}
use Rattle.walks.proofs.Candidates.{candidate_is}
use Rattle.walks.proofs.Invariant.{Invariant, invariant_first, invariant_step, Reached}
use Rattle.walks.proofs.Complete.{NoCandidate, complete}
use Rattle.walks.proofs.Counts.{unsettled_up_to, unsettled_le, unsettled_some, unsettled_settle}

module _ (K : Kind) (law : LawfulKind K) (g : Streets) (n m : ℕ) (map : CodedStreets g n m) (r : ℕ) where
  module _ (T : Table) (k : Invariant K g r T) where
    pub candidate_code : (e : ℕ) (o : Candidate) → candidate_at K g T e ≡ Some o → Code o.2
    candidate_code e o q =
        let f = candidate_is K g T e o q in
        rw f.is (law.join_code f.tail.1 f.street.2 (k.codes f.street.0 f.tail f.behind) (map.codes e f.street f.holds))

    pub candidate_slot : (e : ℕ) (o : Candidate) → candidate_at K g T e ≡ Some o → (0 < e) × (e ≤ m)
    candidate_slot e o q = let f = candidate_is K g T e o q in map.slots e f.street f.holds

    pub candidate_head : (e : ℕ) (o : Candidate) → candidate_at K g T e ≡ Some o → (T o.0 ≡ None) × (0 < o.0) × (o.0 ≤ n)
    candidate_head e o q =
        let f = candidate_is K g T e o q in
        let h = map.heads e f.street f.holds in
        rw f.is (f.ahead, h.0, h.1)

    pub best_here : Best K (candidate_at K g T) m (best_up_to K (candidate_at K g T) m)
    best_here = best_up_to_lem K law (candidate_at K g T) candidate_code m

    pub ended : best_up_to K (candidate_at K g T) m ≡ None → NoCandidate K g T
    ended h e = go (candidate_at K g T e) refl
      where
        b : Best K (candidate_at K g T) m None
        b = rw h at best_here

        go : (o : Option Candidate) → candidate_at K g T e ≡ o → candidate_at K g T e ≡ None
        go None q = q
        go (Some o) q = let s = candidate_slot e o q in b e s.0 s.1

    -- what a step gives: nothing new at the end, and else what keeps all and leaves one junction less
    pub record Next (b : Option Candidate) : Type 0 where
      pub kept : Invariant K g r (settle T b)
      pub fewer : (b ≡ None) ⊎ (suc (unsettled_up_to (settle T b) n) ≡ unsettled_up_to T n)

    pub next : (b : Option Candidate) → Best K (candidate_at K g T) m b → Next b
    next None h = record { kept = k; fewer = inl refl }
    next (Some p) h =
        let d = candidate_head h.0 p h.3 in
        record {
          kept = invariant_step K law g map.codes r T k h.0 p h.3 (λ i o q. let s = candidate_slot i o q in (h.4 i o s.0 s.1 q).0);
          fewer = inr (unsettled_settle T p.0 (p.1, p.2) d.0 n d.1 d.2);
        }

  pub invariant_after : (k : ℕ) → Invariant K g r (table_after K g m r k)
  invariant_after zero = invariant_first K law g map.codes r
  invariant_after (suc k) =
      let T = table_after K g m r k in let h = invariant_after k in
      (next T h (best_up_to K (candidate_at K g T) m) (best_here T h)).kept

  -- the end has come, or each step has settled one
  pub so_far : (k : ℕ) → (best_up_to K (candidate_at K g (table_after K g m r k)) m ≡ None) ⊎ (unsettled_up_to (table_after K g m r k) n + k ≤ n)
  so_far zero = inr (omega (arith, unsettled_le (first_table K r) n))
  so_far (suc k) =
      let T = table_after K g m r k in let h = invariant_after k in
      ⊎_elim (λ (e : best_up_to K (candidate_at K g T) m ≡ None). inl (rw e e))
      (λ l. ⊎_elim (λ (e : best_up_to K (candidate_at K g T) m ≡ None). inl (rw e e)) (λ f. inr (omega arith)) (next T h (best_up_to K (candidate_at K g T) m) (best_here T h)).fewer)
      (so_far k)

  pub at_end : best_up_to K (candidate_at K g (table_after K g m r n)) m ≡ None
  at_end =
      let T = table_after K g m r n in let h = invariant_after n in
      ⊎_elim (λ e. e)
      (λ l. go (best_up_to K (candidate_at K g T) m) (best_here T h) refl (omega arith)) (so_far n)
    where
      go : (b : Option Candidate) → Best K (candidate_at K g (table_after K g m r n)) m b → best_up_to K (candidate_at K g (table_after K g m r n)) m ≡ b → unsettled_up_to (table_after K g m r n) n ≡ 0 → best_up_to K (candidate_at K g (table_after K g m r n)) m ≡ None
      go None h e z = e
      go (Some p) h e z =
          let d = candidate_head (table_after K g m r n) (invariant_after n) h.0 p h.3 in
          absurd (omega (arith, unsettled_some (table_after K g m r n) n p.0 d.1 d.2 d.0))

  pub steps_ended : NoCandidate K g (table_after K g m r n)
  steps_ended = ended (table_after K g m r n) (invariant_after n) at_end

  -- each settled junction has a walk of the tree's streets of its length
  pub steps_sound : (v : ℕ) (t : Entry) → table_after K g m r n v ≡ Some t → Reached K g r (table_after K g m r n) v t.1
  steps_sound = (invariant_after n).sound

  -- and each walk leads to a junction that is settled, with a length no worse
  pub steps_complete : (w : List ℕ) (t : ℕ) → Walk g r w t → (y : Entry) × (table_after K g m r n t ≡ Some y) × (K.no_worse y.1 (walk_length K g w) ≡ true)
  steps_complete = complete K law g map.codes r (table_after K g m r n) (invariant_after n) steps_ended

  -- ---- a table that is reached by steps and has ended is the run's
  stay : (k l : ℕ) → k ≤ l → best_up_to K (candidate_at K g (table_after K g m r k)) m ≡ None → table_after K g m r l ≡ table_after K g m r k
  stay k zero h e = let z : zero ≡ k = omega arith in ap (table_after K g m r) z
  stay k (suc l) h e =
      ⊎_elim (λ j. ap (next_table K g m) (stay k l j e) ∙ ap (settle (table_after K g m r k)) e) (λ (j : k ≡ suc l). ap (table_after K g m r) (sym j)) (le_more k l h)

  pub end_one : (k : ℕ) → best_up_to K (candidate_at K g (table_after K g m r k)) m ≡ None → table_after K g m r n ≡ table_after K g m r k
  end_one k e = ⊎_elim (λ h. sym (stay n k (omega arith) at_end)) (λ h. stay k n h e) (cases_lt n k)

  -- a best candidate is the one that the step takes
  pub step_by : (k : ℕ) (b : Option Candidate) → Best K (candidate_at K g (table_after K g m r k)) m b → settle (table_after K g m r k) b ≡ table_after K g m r (suc k)
  step_by k b h =
      let T = table_after K g m r k in
      ap (settle T) (best_unique K (candidate_at K g T) m b (best_up_to K (candidate_at K g T) m) h (best_here T (invariant_after k)))
