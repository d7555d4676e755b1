-- Each slot of a tree settles one junction, its head.
use Rattle.std.proofs.Common.{◌≡◌, ℕ, ◌<◌, true, false, List, Some, None, Option, sym, refl, ap, ◌∙◌, ⊎_elim, arith}
use Rattle.std.proofs.lemmas.Bool.{eqb-true, eq-eqb, both_ways}
use Rattle.maps.specs.Graph.{Street, Graph}
use Rattle.lengths.specs.Kinds.{Kind, LawfulKind}
use Rattle.walks.specs.Streets.{empty_set, Coded}
use Rattle.walks.specs.Runs.{Entry}
use Rattle.walks.specs.Trees.{Tells, tree, Holds, slot_is, holds_street}
use Rattle.walks.proofs.Facts.{same_some}
use Rattle.walks.proofs.Trees.{run_is_tree, held_at_head}

pub slot_some : (e : ℕ) (o : Option Entry) → slot_is e o ≡ true → (l : ℕ) × (o ≡ Some (e, l))
slot_some e None h = absurd (both_ways false refl h)
slot_some e (Some x) h = (x.1, ap (λ (i : ℕ). Some (i, x.1)) (eqb-true x.0 e h))

pub slot_made : (e l : ℕ) (o : Option Entry) → o ≡ Some (e, l) → slot_is e o ≡ true
slot_made e l o h = rw h (eq-eqb e e refl)

module _ (K : Kind) (law : LawfulKind K) (G : Graph) (map : Coded G) (ns : List ℕ) (v : ℕ) where
  -- a settled junction is the head of its slot
  pub head_of : (u e l : ℕ) → 0 < e → tree K G ns v u ≡ Some (e, l) → (a : Street) × (G.street e ≡ Some a) × (a.1 ≡ u)
  head_of u e l pos s =
      ⊎_elim (λ x. absurd (omega (arith, x.1))) (λ x. (x.street, x.present, x.head)) (run_is_tree K law G map ns empty_set v u e l s)

  -- a street settles one junction
  pub one_head : (e u w i j : ℕ) → 0 < e → tree K G ns v u ≡ Some (e, i) → tree K G ns v w ≡ Some (e, j) → u ≡ w
  one_head e u w i j pos p q =
      let x = head_of u e i pos p in let y = head_of w e j pos q in
      sym x.2 ∙ ap (λ (a : Street). a.1) (same_some x.1 y.1) ∙ y.2

  -- the test tells whether the tree holds a street
  pub tree_holds : (e : ℕ) → Tells (holds_street G (tree K G ns v) e) (Holds (tree K G ns v) e)
  tree_holds e = held_at_head K law G map ns empty_set v e
