-- What the candidates held keep while a run is underway.
use Rattle.std.proofs.Common.{◌≡◌, ℕ, zero, suc, ◌+◌, ◌<◌, ◌≤◌, Bool, true, false, cond, eqb, ◌⊎◌, List, [], ◌∷◌, length, is_some, Some, None, Option, sym, refl, ap, ◌∙◌, subst, inl, inr, ⊎_elim, arith}
use Rattle.std.proofs.lemmas.Bool.{cases_eq, cases_Bool, eq-eqb, eqb-true, ne_eqb}
use Rattle.std.proofs.lemmas.Map.{update_here, update_apart}
use Rattle.std.proofs.ByRecursion.{all-has, has_shuffled}
use Rattle.std.proofs.lemmas.List.Sorted.{length_permutation, IsPermutation-sym}
use Rattle.std.specs.List.{ContainsAt, AllByRecursion}
use Rattle.std.specs.List.Sorted.{IsPermutation}
use Rattle.maps.specs.Graph.{Street}
use Rattle.lengths.specs.Kinds.{Kind, LawfulKind, Code}
use Rattle.walks.specs.Streets.{Streets, omit_if, CodedStreets}
use Rattle.walks.specs.Runs.{Entry, Table, candidate_at, settle, first_table, table_after}
use Rattle.walks.specs.Runs.{Candidate as Looked}
use Rattle.walks.proofs.Lists.{has_first, has_next, has_cases}
use Rattle.walks.proofs.Facts.{none≢some, same_some, le_more}
use Rattle.walks.proofs.Bests.{Best, best_unique}
use Rattle.walks.proofs.Candidates.{candidate_is, candidate_made, settled_cases, was_unsettled}
use Rattle.walks.proofs.Ends.{best_here, invariant_after, end_one, step_by}
use Rattle.entries.specs.declared.Candidate.{Candidate}
use Rattle.entries.specs.Records.{candidate, CandidateAhead}
use Rattle.entries.specs.Ranking.{both_codes, ranked_self}
use Rattle.trees.specs.Candidates.{if_leaves, leaving, if_unsettled, unsettled_heads, with_street, with_streets, one_if_unsettled, unsettled_tail, unsettled_tails, Underway}

-- ---- the streets that leave v for an unsettled head
module _ (v : ℕ) (T : Table) (g : Streets) where
  leaving_is : (e : ℕ) (a : Street) → leaving v (unsettled_heads T g) e ≡ Some a → (g e ≡ Some a) × (a.0 ≡ v)
  leaving_is e a = go (g e) refl
    where
      left : (x : Street) → g e ≡ Some x → (b : Bool) → eqb x.0 v ≡ b → cond b (Some x) None ≡ Some a → (g e ≡ Some a) × (a.0 ≡ v)
      left x q false p s = absurd (none≢some refl s)
      left x q true p s = let i : x ≡ a = same_some refl s in rw (← i) (q, eqb-true x.0 v p)

      met : (x : Street) → g e ≡ Some x → (b : Bool) → if_leaves v (omit_if b (Some x)) ≡ Some a → (g e ≡ Some a) × (a.0 ≡ v)
      met x q true s = absurd (none≢some refl s)
      met x q false s = left x q (eqb x.0 v) refl s

      go : (o : Option Street) → g e ≡ o → if_leaves v (if_unsettled T o) ≡ Some a → (g e ≡ Some a) × (a.0 ≡ v)
      go None q s = absurd (none≢some refl s)
      go (Some x) q s = met x q (is_some (T x.1)) s

  leaving_made : (e : ℕ) (a : Street) → g e ≡ Some a → a.0 ≡ v → T a.1 ≡ None → leaving v (unsettled_heads T g) e ≡ Some a
  leaving_made e a q p u = rw (q, u, eq-eqb a.0 v p)

-- ---- what `with_streets` holds
module _ (K : Kind) (h : Streets) (l : ℕ) (cs : List Candidate) where
  with_old : (k : ℕ) (c : Candidate) → ContainsAt cs c → ContainsAt (with_streets K h l k cs) c
  with_old zero c p = p
  with_old (suc k) c p = go (h (suc k)) (with_old k c p)
    where
      go : (o : Option Street) → ContainsAt (with_streets K h l k cs) c → ContainsAt (with_street K l (suc k) o (with_streets K h l k cs)) c
      go None q = q
      go (Some a) q = has_next _ c _ q

  with_new : (k e : ℕ) (a : Street) → 0 < e → e ≤ k → h e ≡ Some a → ContainsAt (with_streets K h l k cs) (candidate (K.join l a.2) e)
  with_new zero e a lo hi q = absurd (omega arith)
  with_new (suc k) e a lo hi q =
      ⊎_elim (λ j. go (h (suc k)) (with_new k e a lo j q))
      (λ (j : e ≡ suc k). let s : h (suc k) ≡ Some a = rw j at q in rw (s, j) (has_first _ _)) (le_more e k hi)
    where
      go : (o : Option Street) → ContainsAt (with_streets K h l k cs) (candidate (K.join l a.2) e) → ContainsAt (with_street K l (suc k) o (with_streets K h l k cs)) (candidate (K.join l a.2) e)
      go None p = p
      go (Some x) p = has_next _ _ _ p

  with_only : (k : ℕ) (c : Candidate) → ContainsAt (with_streets K h l k cs) c → ContainsAt cs c ⊎ ((a : Street) × (h c.slot ≡ Some a) × (c.length ≡ K.join l a.2))
  with_only zero c p = inl p
  with_only (suc k) c p = go (h (suc k)) refl (with_only k c) p
    where
      go : (o : Option Street) → h (suc k) ≡ o → (ContainsAt (with_streets K h l k cs) c → ContainsAt cs c ⊎ ((a : Street) × (h c.slot ≡ Some a) × (c.length ≡ K.join l a.2)))
          → ContainsAt (with_street K l (suc k) o (with_streets K h l k cs)) c → ContainsAt cs c ⊎ ((a : Street) × (h c.slot ≡ Some a) × (c.length ≡ K.join l a.2))
      go None q i p = i p
      go (Some a) q i p =
          ⊎_elim (λ (e : candidate (K.join l a.2) (suc k) ≡ c). inr (a, ap (λ (x : Candidate). h x.slot) (sym e) ∙ q, ap (λ (x : Candidate). x.length) (sym e)))
          i (has_cases _ c _ p)

-- ---- a junction is settled, and its streets are put: none is counted twice
module _ (K : Kind) (g : Streets) (T U : Table) (v : ℕ) (b : Entry) (un : T v ≡ None) (l : ℕ) (cs : List Candidate) where
  pub with_counted : (k : ℕ) → length (with_streets K (leaving v (unsettled_heads U g)) l k cs) + unsettled_tails g (settle T (Some (v, b.0, b.1))) k ≤ length cs + unsettled_tails g T k
  with_counted zero = omega arith
  with_counted (suc k) = go (g (suc k)) (with_counted k)
    where
      at : (x : Bool) (a : Street) → a.0 ≡ v
          → length (with_streets K (leaving v (unsettled_heads U g)) l k cs) + unsettled_tails g (settle T (Some (v, b.0, b.1))) k ≤ length cs + unsettled_tails g T k
          → length (with_street K l (suc k) (if_leaves v (omit_if x (Some a))) (with_streets K (leaving v (unsettled_heads U g)) l k cs)) + (unsettled_tail (settle T (Some (v, b.0, b.1))) (Some a) + unsettled_tails g (settle T (Some (v, b.0, b.1))) k) ≤ length cs + (unsettled_tail T (Some a) + unsettled_tails g T k)
      at true a p i = rw (p, eq-eqb v v refl, un) (omega arith)
      at false a p i = rw (p, eq-eqb v v refl, un) (omega arith)

      off : (x : Bool) (a : Street) → (a.0 ≡ v → ⊥)
          → length (with_streets K (leaving v (unsettled_heads U g)) l k cs) + unsettled_tails g (settle T (Some (v, b.0, b.1))) k ≤ length cs + unsettled_tails g T k
          → length (with_street K l (suc k) (if_leaves v (omit_if x (Some a))) (with_streets K (leaving v (unsettled_heads U g)) l k cs)) + (unsettled_tail (settle T (Some (v, b.0, b.1))) (Some a) + unsettled_tails g (settle T (Some (v, b.0, b.1))) k) ≤ length cs + (unsettled_tail T (Some a) + unsettled_tails g T k)
      off true a p i = rw (ne_eqb v a.0 (λ q. p (sym q))) (omega arith)
      off false a p i = rw (ne_eqb a.0 v p, ne_eqb v a.0 (λ q. p (sym q))) (omega arith)

      go : (o : Option Street)
          → length (with_streets K (leaving v (unsettled_heads U g)) l k cs) + unsettled_tails g (settle T (Some (v, b.0, b.1))) k ≤ length cs + unsettled_tails g T k
          → length (with_street K l (suc k) (if_leaves v (if_unsettled U o)) (with_streets K (leaving v (unsettled_heads U g)) l k cs)) + (unsettled_tail (settle T (Some (v, b.0, b.1))) o + unsettled_tails g (settle T (Some (v, b.0, b.1))) k) ≤ length cs + (unsettled_tail T o + unsettled_tails g T k)
      go None i = omega arith
      go (Some a) i = ⊎_elim (λ p. at (is_some (U a.1)) a p i) (λ p. off (is_some (U a.1)) a p i) (cases_eq a.0 v)

pub tails_few : (g : Streets) (T : Table) (k : ℕ) → unsettled_tails g T k ≤ k
tails_few g T zero = omega arith
tails_few g T (suc k) = go (g (suc k)) (tails_few g T k)
  where
    at : (o : Option Entry) → unsettled_tails g T k ≤ k → one_if_unsettled o + unsettled_tails g T k ≤ suc k
    at None i = omega arith
    at (Some t) i = omega arith

    go : (o : Option Street) → unsettled_tails g T k ≤ k → unsettled_tail T o + unsettled_tails g T k ≤ suc k
    go None i = omega arith
    go (Some a) i = at (T a.0) i

-- ---- what is known of the candidates, and that all are held
abbrev Known : Kind → Streets → Table → List Candidate → Type 0
Known K g T cs = (c : Candidate) → ContainsAt cs c → (a : Street) × (t : Entry) × (g c.slot ≡ Some a) × (T a.0 ≡ Some t) × (c.length ≡ K.join t.1 a.2)

module _ (K : Kind) (g : Streets) (n m : ℕ) (map : CodedStreets g n m) (r : ℕ) where
  -- after v is settled: the streets into v may be missing before
  module _ (T : Table) (v : ℕ) (b : Entry) (un : T v ≡ None) (cs ts : List Candidate)
      (s : IsPermutation (with_streets K (leaving v (unsettled_heads (settle T (Some (v, b.0, b.1))) g)) b.1 m cs) ts)
      (known : Known K g T cs)
      (all : (e : ℕ) (a : Street) (t : Entry) → g e ≡ Some a → T a.0 ≡ Some t → T a.1 ≡ None → (a.1 ≡ v → ⊥) → ContainsAt cs (candidate (K.join t.1 a.2) e))
      (few : length cs + unsettled_tails g T m ≤ m) (k : ℕ) (is : settle T (Some (v, b.0, b.1)) ≡ table_after K g m r k) where
    known_more : Known K g (settle T (Some (v, b.0, b.1))) ts
    known_more c h =
        ⊎_elim
        (λ o. let i = known c o in
        (i.0, i.1, i.2, update_apart T v (Some b) i.0.0 (λ (z : i.0.0 ≡ v). none≢some un (rw z at i.3)) ∙ i.3, i.4))
        (λ o. let i = leaving_is v (settle T (Some (v, b.0, b.1))) g c.slot o.0 o.1 in (o.0, b, i.0, rw i.1 (update_here T v (Some b)), o.2))
        (with_only K (leaving v (unsettled_heads (settle T (Some (v, b.0, b.1))) g)) b.1 cs m c (has_shuffled _ _ c (IsPermutation-sym _ _ s) h))

    all_more : (e : ℕ) (a : Street) (t : Entry) → g e ≡ Some a → settle T (Some (v, b.0, b.1)) a.0 ≡ Some t → settle T (Some (v, b.0, b.1)) a.1 ≡ None
        → ContainsAt ts (candidate (K.join t.1 a.2) e)
    all_more e a t q p u =
        let w = map.slots e a q in
        let U = settle T (Some (v, b.0, b.1)) in
        has_shuffled _ _ _ s
        (⊎_elim
        (λ z. rw z.1 (with_new K (leaving v (unsettled_heads U g)) b.1 cs m e a w.0 w.1 (leaving_made v U g e a q z.0 u)))
        (λ z. with_old K (leaving v (unsettled_heads U g)) b.1 cs m _
        (all e a t q z (was_unsettled T v b a.1 u) (λ (y : a.1 ≡ v). none≢some (rw y at u) (update_here T v (Some b)))))
        (settled_cases T v b a.0 t p))

    pub underway_settled : Underway K g m r (settle T (Some (v, b.0, b.1))) ts
    underway_settled =
        record {
          after = (k, is);
          known = known_more;
          all = all_more;
          few = let f = with_counted K g T (settle T (Some (v, b.0, b.1))) v b un b.1 cs m in let l = length_permutation _ _ s in omega arith;
        }

  -- the root
  pub underway_first : (ts : List Candidate) → IsPermutation (with_streets K (leaving r (unsettled_heads (first_table K r) g)) K.zero m []) ts → Underway K g m r (first_table K r) ts
  underway_first ts s =
      underway_settled (λ _. None) r (0, K.zero) refl [] ts s (λ c h. absurd (omega (arith, h.1))) (λ e a t q p. absurd (none≢some refl p))
      (let f = tails_few g (λ _. None) m in omega arith) 0 refl

  module _ (T : Table) (c : Candidate) (cs : List Candidate) (i : Underway K g m r T (c ∷ cs)) where
    -- the first is taken, and its head is settled
    pub underway_skip : (a : Street) (x : Entry) → g c.slot ≡ Some a → T a.1 ≡ Some x → Underway K g m r T cs
    underway_skip a x q p =
        record {
          after = i.after;
          known = λ d h. i.known d (has_next c d cs h);
          few = let f = i.few in omega arith;
          all = λ e d t u v w.
              ⊎_elim (λ (z : c ≡ candidate (K.join t.1 d.2) e).
              let y : a ≡ d = same_some q (ap (λ (j : Candidate). g j.slot) z ∙ u) in
              absurd (none≢some w (ap (λ (j : Street). T j.1) (sym y) ∙ p)))
              (λ z. z) (has_cases c _ cs (i.all e d t u v w));
        }

    module _ (law : LawfulKind K) (best : AllByRecursion (CandidateAhead K c) cs) (a : Street) (q : g c.slot ≡ Some a) (un : T a.1 ≡ None) where
      codes : (d : Candidate) → ContainsAt (c ∷ cs) d → Code d.length
      codes d h =
          let y = i.known d h in
          let t = (invariant_after K law g n m map r i.after.0).codes y.0.0 y.1 (subst (λ (X : Table). X y.0.0 ≡ Some y.1) i.after.1 y.3) in
          rw y.4 (law.join_code y.1.1 y.0.2 t (map.codes d.slot y.0 y.2))

      first_best : Best K (candidate_at K g T) m (Some (a.1, c.slot, c.length))
      first_best =
          let w = map.slots c.slot a q in
          let y = i.known c (has_first c cs) in
          let same : y.0 ≡ a = same_some y.2 q in
          let long : K.join y.1.1 a.2 ≡ c.length = ap (λ (x : Street). K.join y.1.1 x.2) (sym same) ∙ sym y.4 in (
            c.slot,
            w.0,
            w.1,
            candidate_made K g T c.slot a y.1 q un (ap (λ (x : Street). T x.0) (sym same) ∙ y.3) ∙ ap (λ (x : ℕ). Some (a.1, c.slot, x)) long,
            λ j o lo hi h.
                let f = candidate_is K g T j o h in
                let d = candidate (K.join f.tail.1 f.street.2) j in
                let h = i.all j f.street f.tail f.holds f.behind f.ahead in
                let cc' = codes c (has_first c cs) in
                let cd = codes d h in
                rw f.is
                (⊎_elim
                (λ (z : c ≡ d). (subst (λ (x : Candidate). K.no_worse c.length x.length ≡ true) z (sym (both_codes K c.length c.length cc' cc') ∙ ranked_self K law c.length), λ lt. let e = ap (λ (x : Candidate). x.slot) z in absurd (omega arith)))
                (λ z. let b = all-has (CandidateAhead K c) cs d best z in
                let better : K.no_worse c.length d.length ≡ true = sym (both_codes K c.length d.length cc' cd) ∙ b.0 in
                (better, λ lt. ⊎_elim (λ t. let e = b.1 (law.anti c.length d.length cc' cd better t) in absurd (omega arith)) (λ t. t) (cases_Bool (K.no_worse d.length c.length))))
                (has_cases c d cs h)),
          )

      -- the first is taken, and its head is settled by it
      pub underway_step : (ts : List Candidate) → IsPermutation (with_streets K (leaving a.1 (unsettled_heads (settle T (Some (a.1, c.slot, c.length))) g)) c.length m cs) ts
          → Underway K g m r (settle T (Some (a.1, c.slot, c.length))) ts
      underway_step ts s =
          let k = i.after.0 in
          let e = i.after.1 in
          underway_settled T a.1 (c.slot, c.length) un cs ts s (λ d h. i.known d (has_next c d cs h))
          (λ j d t u v w x. ⊎_elim (λ (z : c ≡ candidate (K.join t.1 d.2) j).
          let y : a ≡ d = same_some q (ap (λ (p : Candidate). g p.slot) z ∙ u) in
          absurd (x (ap (λ (p : Street). p.1) (sym y))))
          (λ z. z) (has_cases c _ cs (i.all j d t u v w)))
          (let f = i.few in omega arith) (suc k)
          (ap (λ (X : Table). settle X (Some (a.1, c.slot, c.length))) e
          ∙ step_by K law g n m map r k (Some (a.1, c.slot, c.length)) (subst (λ (X : Table). Best K (candidate_at K g X) m (Some (a.1, c.slot, c.length))) e first_best))

      -- there is room for its streets
      pub step_fits : (U : Table) → length (with_streets K (leaving a.1 (unsettled_heads U g)) c.length m cs) ≤ m
      step_fits U = let f = with_counted K g T U a.1 (c.slot, c.length) un c.length cs m in let x = i.few in omega arith

      -- and less is left to do
      pub step_less : (U : Table) (ts : List Candidate) → IsPermutation (with_streets K (leaving a.1 (unsettled_heads U g)) c.length m cs) ts
          → length ts + unsettled_tails g (settle T (Some (a.1, c.slot, c.length))) m ≤ length cs + unsettled_tails g T m
      step_less U ts s = let f = with_counted K g T U a.1 (c.slot, c.length) un c.length cs m in let l = length_permutation _ _ s in omega arith

  -- the candidates are in another order
  pub underway_shuffled : (T : Table) (cs ts : List Candidate) → IsPermutation cs ts → Underway K g m r T cs → Underway K g m r T ts
  underway_shuffled T cs ts s i =
      record {
        after = i.after;
        known = λ c h. i.known c (has_shuffled _ _ c (IsPermutation-sym _ _ s) h);
        all = λ e a t q p u. has_shuffled _ _ _ s (i.all e a t q p u);
        few = let f = i.few in let l = length_permutation _ _ s in omega arith;
      }

  -- no candidate is held: the run has ended
  pub underway_end : (law : LawfulKind K) (T : Table) → Underway K g m r T [] → T ≡ table_after K g m r n
  underway_end law T i =
      let k = i.after.0 in
      let e = i.after.1 in
      let b : Best K (candidate_at K g T) m None = λ j lo hi. none j (candidate_at K g T j) refl in
      e ∙ sym (end_one K law g n m map r k
      (best_unique K (candidate_at K g (table_after K g m r k)) m _ _ (best_here K law g n m map r (table_after K g m r k) (invariant_after K law g n m map r k)) (subst (λ (X : Table). Best K (candidate_at K g X) m None) e b)))
    where
      none : (j : ℕ) (o : Option Looked) → candidate_at K g T j ≡ o → candidate_at K g T j ≡ None
      none j None p = p
      none j (Some o) p =
          let f = candidate_is K g T j o p in
          let h = i.all j f.street f.tail f.holds f.behind f.ahead in
          absurd (omega (arith, h.1))
