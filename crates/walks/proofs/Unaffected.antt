-- A tree that holds no street of a set has the lengths that the run without that set has.
use Rattle.std.proofs.Common.{◌≡◌, ℕ, zero, suc, ◌<◌, ◌≤◌, Bool, true, false, Some, None, Option, refl, ap, ⊎_elim, arith}
use Rattle.std.proofs.lemmas.Bool.{cases_Bool, both_ways, or_cases, or_parts}
use Rattle.maps.specs.Graph.{Street}
use Rattle.lengths.specs.Kinds.{Kind, LawfulKind}
use Rattle.walks.specs.Streets.{Streets, empty_set, run_streets, CodedStreets}
use Rattle.walks.specs.Runs.{Entry, Table, table_after, length_of}
use Rattle.walks.specs.Trees.{Holds, Affected, slot_in, affected_up_to, tree}
use Rattle.walks.specs.Claims.{UnaffectedKeeps, AffectedByTest}
use Rattle.walks.proofs.Facts.{none≢some, same_some, le_more}
use Rattle.walks.proofs.Invariant.{Settles}
use Rattle.walks.proofs.Ends.{invariant_after, steps_sound, steps_complete}
use Rattle.walks.proofs.Filters.{Sub, sub_coded, walk_sub, length_sub, walk_into, run_sub, run_usable, usable_run, run_coded}
use Rattle.walks.proofs.Runs.{settled_on_map}

module _ (K : Kind) (law : LawfulKind K) (h g : Streets) (sub : Sub h g) (n m : ℕ) (map : CodedStreets g n m) (r : ℕ)
    (held : (e : ℕ) (a : Street) → Settles (table_after K g m r n) e → g e ≡ Some a → h e ≡ Some a) where
  map_h : CodedStreets h n m
  map_h = sub_coded h g n m sub map

  -- what the smaller run settles the greater settles, with the same length
  pub same_lengths : (v : ℕ) → length_of (table_after K g m r n v) ≡ length_of (table_after K h m r n v)
  same_lengths v = go (table_after K g m r n v) (table_after K h m r n v) refl refl
    where
      -- h's run from what g's settles
      down : (t : Entry) → table_after K g m r n v ≡ Some t → (y : Entry) × (table_after K h m r n v ≡ Some y) × (K.no_worse y.1 t.1 ≡ true)
      down t s =
          let w = steps_sound K law g n m map r v t s in
          let l = walk_into h g (Settles (table_after K g m r n)) held r w.way v w.leads w.tree in
          let c = steps_complete K law h n m map_h r w.way v l in
          (c.0, c.1, rw (length_sub K h g sub K.zero r w.way v l, w.long) at c.2)

      up : (y : Entry) → table_after K h m r n v ≡ Some y → (t : Entry) × (table_after K g m r n v ≡ Some t) × (K.no_worse t.1 y.1 ≡ true)
      up y s =
          let w = steps_sound K law h n m map_h r v y s in
          let c = steps_complete K law g n m map r w.way v (walk_sub h g sub r w.way v w.leads) in
          (c.0, c.1, rw (← length_sub K h g sub K.zero r w.way v w.leads, w.long) at c.2)

      go : (a b : Option Entry) → table_after K g m r n v ≡ a → table_after K h m r n v ≡ b → length_of a ≡ length_of b
      go None None p q = refl
      go None (Some y) p q = absurd (none≢some p (up y q).1)
      go (Some t) None p q = absurd (none≢some q (down t p).1)
      go (Some t) (Some y) p q =
          let d = down t p in let u = up y q in
          ap Some (law.anti t.1 y.1 ((invariant_after K law g n m map r n).codes v t p) ((invariant_after K law h n m map_h r n).codes v y q)
          (rw (same_some u.1 p) at u.2) (rw (same_some d.1 q) at d.2))

pub unaffected_keeps : UnaffectedKeeps
unaffected_keeps K law G map ns F r free =
    same_lengths K law (run_streets G ns F r) (run_streets G ns empty_set r)
    (λ e a q. usable_run G ns empty_set r e a (refl, (run_usable G ns F r e a q).1) (run_sub G ns F r e a q))
    G.junctions G.slots (run_coded G ns empty_set r map) r
    (λ e a i q.
    let f = run_usable G ns empty_set r e a q in
    usable_run G ns F r e a (outside e ((map.slots e a (run_sub G ns empty_set r e a q)).0, i), f.1) (run_sub G ns empty_set r e a q))
  where
    outside : (e : ℕ) → Holds (tree K G ns r) e → F e ≡ false
    outside e h = ⊎_elim (λ b. absurd (free (e, h, b))) (λ b. b) (cases_Bool (F e))

-- ---- the test
-- where the test says no, no junction of 1 to k is settled by a slot of F
pub none_in : (F : ℕ → Bool) (T : Table) (k : ℕ) → affected_up_to F T k ≡ false → (v : ℕ) → 0 < v → v ≤ k → slot_in F (T v) ≡ false
none_in F T zero h v lo hi = absurd (omega arith)
none_in F T (suc k) h v lo hi =
    let p = or_parts (slot_in F (T (suc k))) (affected_up_to F T k) h in
    ⊎_elim (λ j. none_in F T k p.1 v lo j) (λ (j : v ≡ suc k). rw j p.0) (le_more v k hi)

-- and where it says yes, the table holds a street of F
pub some_in : (F : ℕ → Bool) (T : Table) → F 0 ≡ false → (k : ℕ) → affected_up_to F T k ≡ true → Affected F T
some_in F T z zero h = absurd (both_ways false refl h)
some_in F T z (suc k) h = ⊎_elim (λ p. at (T (suc k)) refl p) (λ p. some_in F T z k p) (or_cases (slot_in F (T (suc k))) (affected_up_to F T k) h)
  where
    above : (e : ℕ) → F e ≡ true → 0 < e
    above zero p = absurd (both_ways (F 0) z p)
    above (suc e) p = omega arith

    at : (o : Option Entry) → T (suc k) ≡ o → slot_in F o ≡ true → Affected F T
    at None q p = absurd (both_ways false refl p)
    at (Some x) q p = (x.0, (above x.0 p, (suc k, x.1, q)), p)

pub affected_by_test : AffectedByTest
affected_by_test K law G map ns F z r on = (
  some_in F (tree K G ns r) z G.junctions,
  λ h a.
      let t = a.1.1 in
      let i = settled_on_map K law G map ns empty_set r on t.0 a.0 t.1 t.2 in
      both_ways (F a.0) (rw t.2 at (none_in F (tree K G ns r) G.junctions h t.0 i.0 i.1)) a.2,
)
