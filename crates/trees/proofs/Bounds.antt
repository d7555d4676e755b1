-- The streets that one junction has in a bounded run.
use Rattle.std.proofs.Common.{◌≡◌, ℕ, zero, suc, Bool, true, false, cond, not, ◌||◌, eqb, List, ◌∷◌, is_some, Some, None, Option, sym, refl, ap, ◌∙◌, ⊎_elim, arith}
use mathlib.Core.Path.{fun_ext}
use Rattle.std.proofs.lemmas.Bool.{cases_eq, ne_eqb}
use Rattle.maps.specs.Graph.{Street, Graph, LawfulMap}
use Rattle.lengths.specs.Kinds.{Kind}
use Rattle.walks.specs.Streets.{Streets, omit_if, bounded_to, bounded_at, CodedStreets}
use Rattle.walks.specs.Runs.{Entry, Table}
use Rattle.walks.proofs.Facts.{same_some, none≢some}
use Rattle.walks.proofs.Filters.{run_sub, run_coded}
use Rattle.walks.proofs.Runs.{lawful_is_coded}
use Rattle.entries.specs.declared.Candidate.{Candidate}
use Rattle.trees.specs.declared.run.Limits.{Limits}
use Rattle.trees.specs.Marks.{closed_in}
use Rattle.trees.specs.Limited.{streets_within}
use Rattle.trees.specs.Candidates.{if_leaves, leaving, if_unsettled, unsettled_heads, with_streets, Underway}

module _ (N : ℕ → Bool) (r v : ℕ) (T : Table) (g : Streets) where
  pub bounded_leaving : (b : Bool) → (eqb v r || not (N v)) ≡ b → leaving v (unsettled_heads T (bounded_to N r g)) ≡ (λ e. cond b (leaving v (unsettled_heads T g) e) None)
  bounded_leaving b t = fun_ext (λ e. go (g e))
    where
      none : (x : Bool) → ◌≡◌ {A = Option Street} (cond x None None) None
      none true = refl
      none false = refl

      same : (x : Bool) (a : Street) → if_leaves v (if_unsettled T (cond x (Some a) None)) ≡ cond x (if_leaves v (if_unsettled T (Some a))) None
      same true a = refl
      same false a = refl

      apart : (x : Bool) (a : Street) → (a.0 ≡ v → ⊥) → if_leaves v (omit_if x (Some a)) ≡ None
      apart true a p = refl
      apart false a p = rw (ne_eqb a.0 v p)

      go : (o : Option Street) → if_leaves v (if_unsettled T (bounded_at N r o)) ≡ cond b (if_leaves v (if_unsettled T o)) None
      go None = sym (none b)
      go (Some a) =
          ⊎_elim
          (λ (p : a.0 ≡ v). let u : (eqb a.0 r || not (N a.0)) ≡ b = rw p t in rw u (same b a))
          (λ p. same (eqb a.0 r || not (N a.0)) a ∙ rw (apart (is_some (T a.1)) a p) (none (eqb a.0 r || not (N a.0)) ∙ sym (none b)))
          (cases_eq a.0 v)

  pub with_may : (K : Kind) (l m : ℕ) (cs : List Candidate) → true ≡ (eqb v r || not (N v)) → with_streets K (leaving v (unsettled_heads T g)) l m cs ≡ with_streets K (leaving v (unsettled_heads T (bounded_to N r g))) l m cs
  with_may K l m cs t = ap (λ (h : Streets). with_streets K h l m cs) (sym (bounded_leaving true (sym t)))

  pub with_not : (K : Kind) (l m : ℕ) (cs : List Candidate) → false ≡ (eqb v r || not (N v)) → with_streets K (leaving v (unsettled_heads T (bounded_to N r g))) l m cs ≡ cs
  with_not K l m cs t = ap (λ (h : Streets). with_streets K h l m cs) (bounded_leaving false (sym t)) ∙ nil m
    where
      nil : (k : ℕ) → with_streets K (λ _. None) l k cs ≡ cs
      nil zero = refl
      nil (suc k) = nil k

module _ (T : Table) (g : Streets) (e : ℕ) (a : Street) where
  -- a street that is ahead has an unsettled head
  ahead_is : unsettled_heads T g e ≡ Some a → (g e ≡ Some a) × (T a.1 ≡ None)
  ahead_is = go (g e) refl
    where
      at : (x : Street) → g e ≡ Some x → (o : Option Entry) → T x.1 ≡ o → omit_if (is_some o) (Some x) ≡ Some a → (g e ≡ Some a) × (T a.1 ≡ None)
      at x q (Some t) p s = absurd (none≢some refl s)
      at x q None p s = let i : x ≡ a = same_some refl s in rw (← i) (q, p)

      go : (o : Option Street) → g e ≡ o → if_unsettled T o ≡ Some a → (g e ≡ Some a) × (T a.1 ≡ None)
      go None q s = absurd (none≢some refl s)
      go (Some x) q s = at x q (T x.1) refl s

  -- and the head of one that is not is settled
  ahead_none : g e ≡ Some a → unsettled_heads T g e ≡ None → (x : Entry) × (T a.1 ≡ Some x)
  ahead_none q s = go (T a.1) refl (ap (if_unsettled T) (sym q) ∙ s)
    where
      go : (o : Option Entry) → T a.1 ≡ o → omit_if (is_some o) (Some a) ≡ None → (x : Entry) × (T a.1 ≡ Some x)
      go None p t = absurd (none≢some t refl)
      go (Some x) p t = (x, p)

module _ (G : Graph) (L : Limits) where
  pub within_is : (e : ℕ) (a : Street) → streets_within G L e ≡ Some a → G.street e ≡ Some a
  within_is e a h = run_sub G L.transit.now (closed_in L.closed.now) L.root e a h

  pub within_coded : LawfulMap G → CodedStreets (streets_within G L) G.junctions G.slots
  within_coded w = run_coded G L.transit.now (closed_in L.closed.now) L.root (lawful_is_coded G w)

  module _ (K : Kind) (m r : ℕ) (T : Table) (c : Candidate) (cs : List Candidate) (i : Underway K (streets_within G L) m r T (c ∷ cs)) where
    -- the street of the first candidate is the map's
    pub first_street : {a : Street} → Some a ≡ unsettled_heads T G.street c.slot → (streets_within G L c.slot ≡ Some a) × (G.street c.slot ≡ Some a) × (T a.1 ≡ None)
    first_street {a} q =
        let y = i.known c (0, omega arith, λ d. refl) in
        let h = ahead_is T G.street c.slot a (sym q) in
        (y.2 ∙ ap Some (same_some (within_is c.slot y.0 y.2) h.0), h.0, h.1)

    -- and where it is not ahead, its head is settled
    pub first_settled : None ≡ unsettled_heads T G.street c.slot → (a : Street) × (x : Entry) × (streets_within G L c.slot ≡ Some a) × (T a.1 ≡ Some x)
    first_settled q =
        let y = i.known c (0, omega arith, λ d. refl) in
        let x = ahead_none T G.street c.slot y.0 (within_is c.slot y.0 y.2) (sym q) in
        (y.0, x.0, y.2, x.1)
