-- A run's table is a tree: every settled junction but the root has a street into it, and a street is held at its head alone.
use Rattle.std.proofs.Common.{◌≡◌, ℕ, zero, suc, Bool, true, false, ◌⊎◌, List, Some, None, Option, sym, refl, ap, ◌∙◌, inl, inr, ⊎_elim, arith}
use Rattle.std.proofs.lemmas.Bool.{both_ways, eqb-true, eq-eqb}
use Rattle.std.proofs.lemmas.Map.{update_apart}
use Rattle.maps.specs.Graph.{Street, Graph}
use Rattle.lengths.specs.Kinds.{Kind, LawfulKind}
use Rattle.walks.specs.Streets.{Streets, run_streets, Coded}
use Rattle.walks.specs.Runs.{Entry, Table, Candidate, candidate_at, best_up_to, settle, first_table, table_after, bounded_run}
use Rattle.walks.specs.Trees.{Holds, SettledBy, slot_is, head_settled_by}
use Rattle.walks.specs.Claims.{RunIsTree, HeldAtHead}
use Rattle.walks.proofs.Facts.{none≢some}
use Rattle.walks.proofs.Bests.{Best}
use Rattle.walks.proofs.Candidates.{CandidateOf, candidate_is, settled_cases}
use Rattle.walks.proofs.Ends.{best_here, invariant_after}
use Rattle.walks.proofs.Filters.{run_sub, run_coded}

-- what a table says of a settled junction
abbrev pub InTree : Kind → Graph → ℕ → Table → ℕ → ℕ → ℕ → Type 0
InTree K G r T v e l = ((v ≡ r) × (e ≡ 0) × (l ≡ K.zero)) ⊎ SettledBy K G T v e l

module _ (K : Kind) (law : LawfulKind K) (G : Graph) (map : Coded G) (ns : List ℕ) (F : ℕ → Bool) (r : ℕ) where
  abbrev g : Streets
  g = run_streets G ns F r

  tree_first : (v e l : ℕ) → first_table K r v ≡ Some (e, l) → InTree K G r (first_table K r) v e l
  tree_first v e l s =
      ⊎_elim (λ p. inl (p.0, ap (λ (x : Entry). x.0) p.1, ap (λ (x : Entry). x.1) p.1))
      (λ (n : None ≡ Some (e, l)). absurd (none≢some refl n)) (settled_cases (λ _. None) r (0, K.zero) v (e, l) s)

  -- what stands stays so when an unsettled junction is settled
  tree_grown : (T : Table) (p : Candidate) → T p.0 ≡ None → (v e l : ℕ) → InTree K G r T v e l → InTree K G r (settle T (Some p)) v e l
  tree_grown T p u v e l = ⊎_elim inl (λ (x : SettledBy K G T v e l).
      inr (record {
        street = x.street;
        tail = x.tail;
        present = x.present;
        head = x.head;
        joined = x.joined;
        settled = update_apart T p.0 (Some (p.1, p.2)) x.street.0 (λ (n : x.street.0 ≡ p.0). none≢some u (rw n at x.settled)) ∙ x.settled;
      }))

  tree_step : (T : Table) → ((v e l : ℕ) → T v ≡ Some (e, l) → InTree K G r T v e l) → (b : Option Candidate) → Best K (candidate_at K g T) G.slots b
      → (v e l : ℕ) → settle T b v ≡ Some (e, l) → InTree K G r (settle T b) v e l
  tree_step T h None best v e l s = h v e l s
  tree_step T h (Some p) best v e l s =
      ⊎_elim
      (λ c.
      let slot : e ≡ best.0 = ap (λ (x : Entry). x.0) c.1 ∙ ap (λ (o : Candidate). o.1) f.is in
      inr (record {
        street = f.street;
        tail = f.tail;
        present = rw slot (run_sub G ns F r best.0 f.street f.holds);
        head = sym (c.0 ∙ ap (λ (o : Candidate). o.0) f.is);
        settled = update_apart T p.0 (Some (p.1, p.2)) f.street.0 (λ (n : f.street.0 ≡ p.0). none≢some fresh (rw n at f.behind)) ∙ f.behind;
        joined = sym (ap (λ (x : Entry). x.1) c.1 ∙ ap (λ (o : Candidate). o.2) f.is);
      }))
      (λ c. tree_grown T p fresh v e l (h v e l c))
      (settled_cases T p.0 (p.1, p.2) v (e, l) s)
    where
      f : CandidateOf K g T best.0 p
      f = candidate_is K g T best.0 p best.3

      fresh : T p.0 ≡ None
      fresh = rw f.is f.ahead

  pub tree_after : (k v e l : ℕ) → table_after K g G.slots r k v ≡ Some (e, l) → InTree K G r (table_after K g G.slots r k) v e l
  tree_after zero = tree_first
  tree_after (suc k) =
      let T = table_after K g G.slots r k in let c = run_coded G ns F r map in
      tree_step T (tree_after k) (best_up_to K (candidate_at K g T) G.slots) (best_here K law g G.junctions G.slots c r T (invariant_after K law g G.junctions G.slots c r k))

pub run_is_tree : RunIsTree
run_is_tree K law G map ns F r v e l s = tree_after K law G map ns F r G.junctions v e l s

pub held_at_head : HeldAtHead
held_at_head K law G map ns F r e = (street (G.street e) refl, λ h x. both_ways (head_settled_by T e (G.street e)) h (held x))
  where
    T : Table
    T = bounded_run K G ns F r

    entry : (a : Street) → G.street e ≡ Some a → (o : Option Entry) → T a.1 ≡ o → slot_is e o ≡ true → Holds T e
    entry a q None p h = absurd (both_ways false refl h)
    entry a q (Some x) p h = let i : x.0 ≡ e = eqb-true x.0 e h in ((map.slots e a q).0, (a.1, x.1, p ∙ ap (λ (j : ℕ). Some (j, x.1)) i))

    street : (o : Option Street) → G.street e ≡ o → head_settled_by T e o ≡ true → Holds T e
    street None q h = absurd (both_ways false refl h)
    street (Some a) q h = entry a q (T a.1) refl h

    held : Holds T e → head_settled_by T e (G.street e) ≡ true
    held x = ⊎_elim (λ p. absurd (omega (arith, p.1, x.0))) (λ y. rw (y.present, y.head, x.1.2) (eq-eqb e e refl)) (run_is_tree K law G map ns F r x.1.0 e x.1.1 x.1.2)
