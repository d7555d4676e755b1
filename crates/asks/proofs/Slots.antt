-- A tree's number, counted over the junctions, is the number of closed slots that the tree holds.
use Rattle.std.proofs.Common.{◌≡◌, ℕ, zero, suc, ◌+◌, ◌-◌, ◌<◌, ◌≤◌, Bool, true, false, ◌&&◌, List, length, Some, None, Option, sym, refl, ap, ◌∙◌, subst, ⊎_elim, arith}
use Rattle.std.proofs.lemmas.Bool.{cases_Bool, cases_eq, ne_eqb, both_ways}
use Rattle.std.proofs.lemmas.List.FromFn.{length-range_with_len, get_or-range_with_len}
use Rattle.std.specs.List.{range_with_len}
use Rattle.maps.specs.Graph.{Graph}
use Rattle.lengths.specs.Kinds.{Kind, LawfulKind}
use Rattle.walks.specs.Streets.{empty_set, Coded}
use Rattle.walks.specs.Runs.{Entry, Table}
use Rattle.walks.specs.Trees.{Tells, OnMap, tree, Holds, slot_in, slot_is, holds_street}
use Rattle.walks.proofs.Runs.{settled_on_map}
use Rattle.asks.specs.Redone.{Counted}
use Rattle.asks.specs.Held.{bit, closed_held}
use Rattle.asks.specs.Index.{node_at}
use Rattle.asks.specs.Reached.{passing}
use Rattle.asks.specs.Claims.{NumberCounts}
use Rattle.asks.proofs.Counting.{tells_both, counted_at}
use Rattle.asks.proofs.Heads.{slot_some, slot_made, head_of, one_head, tree_holds}
use Rattle.asks.proofs.Sums.{total, total_same, total_none, total_one, total_swap, total_passing}

module _ (K : Kind) (law : LawfulKind K) (G : Graph) (map : Coded G) (ns : List ℕ) (v : ℕ) (on : OnMap G v) (F : ℕ → Bool) (z : F 0 ≡ false) where
  abbrev T : Table
  T = tree K G ns v

  -- 1 where junction u is settled by the closed street e
  abbrev mark : ℕ → ℕ → ℕ
  mark u e = bit (slot_is e (T u) && F e)

  mark_none : (u e : ℕ) → slot_is e (T u) ≡ false → mark u e ≡ 0
  mark_none u e h = rw h

  row : (u : ℕ) → total (mark u) G.slots ≡ bit (slot_in F (T u))
  row u = go (T u) refl
    where
      go : (o : Option Entry) → T u ≡ o → total (mark u) G.slots ≡ bit (slot_in F o)
      go None q = total_none (mark u) G.slots (λ e lo hi. mark_none u e (rw q))
      go (Some x) q =
          ⊎_elim
          (λ (p : x.0 ≡ 0).
          total_none (mark u) G.slots (λ e lo hi. mark_none u e (rw q (ne_eqb x.0 e (omega arith)))) ∙ sym (ap bit (ap F p ∙ z)))
          (λ p.
          let pos : 0 < x.0 = omega arith in
          let d = head_of K law G map ns v u x.0 x.1 pos q in
          let s = map.slots x.0 d.0 d.1 in
          total_one (mark u) G.slots x.0 s.0 s.1 (λ e lo hi n. mark_none u e (rw q (ne_eqb x.0 e (λ y. n (sym y)))))
          ∙ ap (λ (b : Bool). bit (b && F x.0)) (slot_made x.0 x.1 (T u) q))
          (cases_eq x.0 0)

  column : (e : ℕ) → 0 < e → total (λ u. mark u e) G.junctions ≡ bit (holds_street G T e && F e)
  column e pos =
      ⊎_elim
      (λ (h : holds_street G T e ≡ true).
      let x = ((tree_holds K law G map ns v e).0 h).1 in
      let o = settled_on_map K law G map ns empty_set v on x.0 e x.1 x.2 in
      total_one (λ u. mark u e) G.junctions x.0 o.0 o.1
      (λ u lo hi n. mark_none u e (other u (λ w. n (one_head K law G map ns v e u x.0 w.0 x.1 pos w.1 x.2))))
      ∙ ap (λ (b : Bool). bit (b && F e)) (slot_made e x.1 (T x.0) x.2 ∙ sym h))
      (λ (h : holds_street G T e ≡ false).
      total_none (λ u. mark u e) G.junctions
      (λ u lo hi. mark_none u e (other u (λ w. (tree_holds K law G map ns v e).1 h (pos, (u, w.0, w.1)))))
      ∙ ap (λ (b : Bool). bit (b && F e)) (sym h))
      (cases_Bool (holds_street G T e))
    where
      other : (u : ℕ) → ((l : ℕ) × (T u ≡ Some (e, l)) → ⊥) → slot_is e (T u) ≡ false
      other u n = ⊎_elim (λ y. absurd (n (slot_some e (T u) y))) (λ y. y) (cases_Bool (slot_is e (T u)))

  held_total : (n : ℕ) → closed_held F T n ≡ total (λ u. bit (slot_in F (T u))) n
  held_total zero = refl
  held_total (suc n) = ap (λ (x : ℕ). x + bit (slot_in F (T (suc n)))) (held_total n)

  pub by_slots : closed_held F (tree K G ns v) G.junctions ≡ passing (λ e. holds_street G (tree K G ns v) e && F e) G.slots
  by_slots =
      held_total G.junctions
      ∙ total_same (λ u. bit (slot_in F (T u))) (λ u. total (mark u) G.slots) G.junctions (λ u lo hi. sym (row u))
      ∙ total_swap mark G.junctions G.slots
      ∙ total_same (λ e. total (λ u. mark u e) G.junctions) (λ e. bit (holds_street G T e && F e)) G.slots (λ e lo hi. column e lo)
      ∙ sym (total_passing (λ e. holds_street G T e && F e) G.slots)

tells_true : (b : Bool) → Tells b (b ≡ true)
tells_true b = (λ h. h, λ h q. both_ways b h q)

pub number_counts : NumberCounts
number_counts K law G map ns v on F z =
    subst (Counted P xs) (ap (passing q) len ∙ sym (by_slots K law G map ns v on F z)) (counted_at P q xs at)
  where
    T : Table
    T = tree K G ns v

    xs : List ℕ
    xs = range_with_len 1 G.slots

    P : ℕ → Type 0
    P e = Holds T e × (F e ≡ true)

    q : ℕ → Bool
    q e = holds_street G T e && F e

    len : length xs ≡ G.slots
    len = length-range_with_len 1 G.slots

    at : (i : ℕ) → 0 < i → i ≤ length xs → Tells (q i) (P (node_at xs i))
    at i lo hi =
        let e : node_at xs i ≡ i = get_or-range_with_len 1 G.slots (i - 1) 0 (omega (arith, len)) ∙ (let w : 1 + (i - 1) ≡ i = omega arith in w) in
        subst (λ (k : ℕ). Tells (q i) (P k)) (sym e)
        (tells_both (holds_street G T i) (F i) (Holds T i) (F i ≡ true) (tree_holds K law G map ns v i) (tells_true (F i)))
