-- What each turn of the search keeps, and what its end says.
use Rattle.std.proofs.Common.{◌≡◌, ℕ, suc, ◌+◌, ◌*◌, ◌<◌, ◌≤◌, Bool, true, false, cond, eqb, List, [], ◌∷◌, length, Some, None, Option, sym, refl, ap, ap₂, ◌∙◌, subst, inl, inr, ⊎_elim, arith}
use Rattle.std.proofs.lemmas.Map.{update_here, update_apart}
use Rattle.std.proofs.ByRecursion.{all-has, has_shuffled}
use Rattle.std.proofs.lemmas.List.Sorted.{length_permutation, IsPermutation-sym}
use Rattle.std.specs.Map.{update}
use Rattle.std.specs.List.{ContainsAt, AllByRecursion}
use Rattle.std.specs.List.Sorted.{IsPermutation}
use Rattle.lengths.specs.Kinds.{Kind, LawfulKind, Code}
use Rattle.maps.specs.Graph.{Street}
use Rattle.entries.specs.declared.Node.{Node}
use Rattle.entries.specs.Records.{node, NodeAhead}
use Rattle.entries.specs.Ranking.{both_codes, ranked_self}
use Rattle.walks.specs.Streets.{empty_set}
use Rattle.walks.specs.Walks.{BestOpen}
use Rattle.walks.specs.Runs.{Entry, Table, Candidate, length_of, candidate_at, settle, first_table}
use Rattle.walks.specs.Legs.{Legs, grid, Target}
use Rattle.walks.proofs.Facts.{none≢some}
use Rattle.walks.proofs.Candidates.{candidate_is, candidate_made, settled_cases, was_unsettled}
use Rattle.walks.proofs.Invariant.{Invariant, invariant_first, invariant_step}
use Rattle.walks.proofs.Complete.{ended_best}
use Rattle.walks.proofs.Grids.{grid_is, grid_made}
use Rattle.legs.specs.declared.table.LegTable.{LegTable}
use Rattle.legs.specs.Tables.{leg_of}
use Rattle.legs.specs.Searches.{Lengths, open_legs, adding_all, unreached, pairs, Offered, Searched}
use Rattle.walks.proofs.Lists.{has_first, has_next, has_cases}
use Rattle.walks.proofs.Legs.{between_is}
use Rattle.legs.proofs.Cells.{leg_between_lem, leg_code}
use Rattle.legs.proofs.Spreads.{unreached_le, unreached_set, pairs_le, pairs_next, pairs_room, open_is, all_old, all_new, all_only, all_few}

target_few : (k v : ℕ) → k ≤ 16 → Target k v → v < 32
target_few k v few (inl h) = omega arith
target_few k v few (inr h) = omega arith

-- what a table shows after a node is settled
shows_set : (T : Table) (L : Lengths) (v e l : ℕ) → ((u : ℕ) → length_of (T u) ≡ L u) → (u : ℕ) → length_of (settle T (Some (v, e, l)) u) ≡ update eqb L v (Some l) u
shows_set T L v e l h u = go (eqb v u)
  where
    go : (b : Bool) → length_of (cond b (Some (e, l)) (T u)) ≡ cond b (Some l) (L u)
    go true = refl
    go false = h u

none_shown : (o : Option Entry) (p : Option ℕ) → length_of o ≡ p → p ≡ None → o ≡ None
none_shown None p h q = refl
none_shown (Some t) p h q = absurd (none≢some (h ∙ q) refl)

module _ (K : Kind) (law : LawfulKind K) (legs : LegTable) where
  abbrev D : Legs
  D = leg_of legs

  abbrev k : ℕ
  k = legs.count

  -- a leg leads to a position or the goal
  leads : (i j w : ℕ) → D i j ≡ Some w → Target k j
  leads i j w h = (between_is k i j (leg_between_lem legs i j w h)).1

  grid_codes : (e : ℕ) (a : Street) → grid D e ≡ Some a → Code a.2
  grid_codes e a q = leg_code legs a.0 a.1 a.2 (grid_is D e a q)

  -- after v is settled: what leads into v need not wait before
  module _ (T : Table) (v : ℕ) (b : Entry) (un : T v ≡ None) (L : Lengths) (shows : (u : ℕ) → length_of (settle T (Some (v, b.0, b.1)) u) ≡ L u)
      (hs ts : List Node) (s : IsPermutation (adding_all K (open_legs L (D v)) b.1 k hs) ts)
      (offered : (x : Node) → ContainsAt hs x → Offered K D T x)
      (waits : (i j w : ℕ) (t : Entry) → D i j ≡ Some w → T i ≡ Some t → T j ≡ None → (j ≡ v → ⊥) → ContainsAt hs (node (K.join t.1 w) j)) where
    offered_more : (x : Node) → ContainsAt ts x → Offered K D (settle T (Some (v, b.0, b.1))) x
    offered_more x h =
        ⊎_elim
        (λ o. let y = offered x o in
        (y.0, y.1, y.2, y.3, update_apart T v (Some b) y.0 (λ (z : y.0 ≡ v). none≢some un (rw z at y.4)) ∙ y.4, y.5))
        (λ o. (v, b, o.0, open_is L (D v) x.position o.0 o.1, update_here T v (Some b), o.2))
        (all_only K (open_legs L (D v)) b.1 hs k x (has_shuffled _ _ x (IsPermutation-sym _ _ s) h))

    waits_more : (i j w : ℕ) (t : Entry) → D i j ≡ Some w → settle T (Some (v, b.0, b.1)) i ≡ Some t → settle T (Some (v, b.0, b.1)) j ≡ None → ContainsAt ts (node (K.join t.1 w) j)
    waits_more i j w t q p u =
        let n : L j ≡ None = sym (shows j) ∙ ap length_of u in
        has_shuffled _ _ _ s
        (⊎_elim
        (λ z.
        let x : D v j ≡ Some w = rw z.0 at q in
        let y : open_legs L (D v) j ≡ Some w = rw (n, x) in
        rw z.1 (all_new K (open_legs L (D v)) b.1 hs k j w (leads i j w q) y))
        (λ z. all_old K (open_legs L (D v)) b.1 hs k _
        (waits i j w t q z (was_unsettled T v b j u) (λ (y : j ≡ v). none≢some (rw y at u) (update_here T v (Some b)))))
        (settled_cases T v b i t p))

  -- the start alone is settled
  first : (L : Lengths) (ts : List Node) → L ≡ update eqb (λ _. None) 0 (Some K.zero) → IsPermutation (adding_all K (open_legs L (D 0)) K.zero k []) ts → Searched K D k L ts
  first L ts e s =
      let f = all_few K L (D 0) K.zero [] k ts s in
      let u = unreached_le L k in
      let p = pairs_le (unreached L k) (suc k) u in
      record {
        table = first_table K 0;
        kept = invariant_first K law (grid D) grid_codes 0;
        shows = shown;
        offered = offered_more (λ _. None) 0 (0, K.zero) refl L shown [] ts s (λ x h. absurd (omega (arith, h.1))) (λ i j w t q z. absurd (none≢some refl z));
        waits = waits_more (λ _. None) 0 (0, K.zero) refl L shown [] ts s (λ x h. absurd (omega (arith, h.1))) (λ i j w t q z. absurd (none≢some refl z));
        few = omega arith;
      }
    where
      shown : (u : ℕ) → length_of (first_table K 0 u) ≡ L u
      shown u = rw e (shows_set (λ _. None) (λ _. None) 0 0 K.zero (λ _. refl) u)

  pub searched_first : {L N : Lengths} {z : ℕ} {hs ts : List Node} → N ≡ (λ _. None) → z ≡ K.zero → hs ≡ [] → L ≡ update eqb N 0 (Some z)
      → IsPermutation (adding_all K (open_legs L (D 0)) z k hs) ts → Searched K D k L ts
  searched_first {L} {N} {z} {hs} {ts} n e h is s =
      first L ts (is ∙ ap₂ (λ (M : Lengths) (x : ℕ). update eqb M 0 (Some x)) n e)
      (subst (λ x. IsPermutation (adding_all K (open_legs L (D 0)) x k []) ts) e (subst (λ xs. IsPermutation (adding_all K (open_legs L (D 0)) z k xs) ts) h s))

  module _ {L : Lengths} {c : Node} {hs : List Node} (i : Searched K D k L (c ∷ hs)) where
    pub searched_target : Target k c.position
    searched_target = let y = i.offered c (has_first c hs) in leads y.0 c.position y.2 y.3

    pub searched_bound : c.position < 32
    searched_bound = target_few k c.position legs.few searched_target

    -- the best node is taken, and is reached already
    pub searched_drop : (x : ℕ) → L c.position ≡ Some x → Searched K D k L hs
    searched_drop x p =
        let f = i.few in
        record {
          table = i.table;
          kept = i.kept;
          shows = i.shows;
          offered = λ y h. i.offered y (has_next c y hs h);
          waits = λ a j w t q r u.
              ⊎_elim (λ (z : c ≡ node (K.join t.1 w) j).
              let e : j ≡ c.position = ap (λ (y : Node). y.position) (sym z) in
              absurd (none≢some (sym (i.shows j ∙ ap L e) ∙ ap length_of u) p))
              (λ z. z) (has_cases c _ hs (i.waits a j w t q r u));
          few = omega arith;
        }

    waiting_code : (d : Node) → ContainsAt (c ∷ hs) d → Code d.length
    waiting_code d h =
        let y = i.offered d h in
        rw y.5 (law.join_code y.1.1 y.2 (i.kept.codes y.0 y.1 y.4) (leg_code legs y.0 d.position y.2 y.3))

    module _ (best : AllByRecursion (NodeAhead K c) hs) (p : L c.position ≡ None) where
      fresh : i.table c.position ≡ None
      fresh = none_shown (i.table c.position) (L c.position) (i.shows c.position) p

      slot : ℕ
      slot = let y = i.offered c (has_first c hs) in y.0 * 32 + c.position

      -- the best node that waits is the best candidate
      kept_next : Invariant K (grid D) 0 (settle i.table (Some (c.position, slot, c.length)))
      unfolding slot
      kept_next =
          let y = i.offered c (has_first c hs) in
          let e = y.0 * 32 + c.position in
          let q : candidate_at K (grid D) i.table e ≡ Some (c.position, e, c.length) =
          candidate_made K (grid D) i.table e (y.0, c.position, y.2) y.1 (grid_made D y.0 c.position y.2 searched_bound y.3) fresh y.4
          ∙ ap (λ (x : ℕ). Some (c.position, e, x)) (sym y.5) in
          let x = waiting_code c (has_first c hs) in
          invariant_step K law (grid D) grid_codes 0 i.table i.kept e (c.position, e, c.length) q
          (λ j o h.
          let f = candidate_is K (grid D) i.table j o h in
          let d = node (K.join f.tail.1 f.street.2) f.street.1 in
          let hd = i.waits f.street.0 f.street.1 f.street.2 f.tail (grid_is D j f.street f.holds) f.behind f.ahead in
          rw f.is
          (⊎_elim
          (λ (z : c ≡ d). subst (λ (u : Node). K.no_worse c.length u.length ≡ true) z (sym (both_codes K c.length c.length x x) ∙ ranked_self K law c.length))
          (λ z. sym (both_codes K c.length d.length x (waiting_code d hd)) ∙ (all-has (NodeAhead K c) hs d best z).0)
          (has_cases c d hs hd)))

      -- the node is settled, and its legs are put
      module _ {M : Lengths} (is : M ≡ update eqb L c.position (Some c.length)) where
        fewer : suc (unreached M k) ≡ unreached L k
        fewer = rw is (unreached_set L c.position c.length p k legs.few searched_target)

        pub searched_room : length hs + unreached M k ≤ 153
        searched_room =
            let f = i.few in
            let g = pairs_next (unreached M k) in
            let e : pairs (suc (unreached M k)) ≡ pairs (unreached L k) = ap pairs fewer in
            let r = pairs_room k legs.few in
            omega arith

        module _ {ts : List Node} (s : IsPermutation (adding_all K (open_legs M (D c.position)) c.length k hs) ts) where
          pub searched_less : length ts + pairs (unreached M k) ≤ length hs + pairs (unreached L k)
          searched_less =
              let f = all_few K M (D c.position) c.length hs k ts s in
              let g = pairs_next (unreached M k) in
              let e : pairs (suc (unreached M k)) ≡ pairs (unreached L k) = ap pairs fewer in
              omega arith

          pub searched_visit : Searched K D k M ts
          searched_visit =
              let a = searched_less in
              let f = i.few in
              record {
                table = settle i.table (Some (c.position, slot, c.length));
                kept = kept_next;
                shows = shown;
                offered = offered_more i.table c.position (slot, c.length) fresh M shown hs ts s (λ y h. i.offered y (has_next c y hs h)) before;
                waits = waits_more i.table c.position (slot, c.length) fresh M shown hs ts s (λ y h. i.offered y (has_next c y hs h)) before;
                few = omega arith;
              }
            where
              shown : (u : ℕ) → length_of (settle i.table (Some (c.position, slot, c.length)) u) ≡ M u
              shown u = rw is (shows_set i.table L c.position slot c.length i.shows u)

              before : (a j w : ℕ) (t : Entry) → D a j ≡ Some w → i.table a ≡ Some t → i.table j ≡ None → (j ≡ c.position → ⊥) → ContainsAt hs (node (K.join t.1 w) j)
              before a j w t q r u x =
                  ⊎_elim (λ (z : c ≡ node (K.join t.1 w) j). absurd (x (ap (λ (y : Node). y.position) (sym z)))) (λ z. z) (has_cases c _ hs (i.waits a j w t q r u))

  pub searched_shuffled : {L : Lengths} {hs : List Node} (ts : List Node) → IsPermutation hs ts → Searched K D k L hs → Searched K D k L ts
  searched_shuffled ts s i =
      let f = i.few in
      let l = length_permutation _ _ s in
      record {
        table = i.table;
        kept = i.kept;
        shows = i.shows;
        offered = λ y h. i.offered y (has_shuffled _ _ y (IsPermutation-sym _ _ s) h);
        waits = λ a j w t q r u. has_shuffled _ _ _ s (i.waits a j w t q r u);
        few = omega arith;
      }

  -- nothing waits: the lengths are best
  pub searched_end : {L : Lengths} → Searched K D k L [] → (t : ℕ) → BestOpen K (grid D) empty_set 0 t (L t)
  searched_end i t =
      subst (BestOpen K (grid D) empty_set 0 t) (i.shows t)
      (ended_best K law (grid D) grid_codes 0 i.table i.kept (λ e. none e (candidate_at K (grid D) i.table e) refl) t)
    where
      none : (e : ℕ) (o : Option Candidate) → candidate_at K (grid D) i.table e ≡ o → candidate_at K (grid D) i.table e ≡ None
      none e None p = p
      none e (Some o) p =
          let f = candidate_is K (grid D) i.table e o p in
          let h = i.waits f.street.0 f.street.1 f.street.2 f.tail (grid_is D e f.street f.holds) f.behind f.ahead in
          absurd (omega (arith, h.1))
