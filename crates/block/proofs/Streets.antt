-- Streets of a block by their slots: a street leaves the cell of its slot.
use Rattle.std.proofs.Common.{◌≡◌, ℕ, ◌+◌, ◌*◌, ◌<◌, ◌≤◌, Bool, true, false, cond, eqb, List, Some, None, Option, refl, ap, ◌∙◌, arith}
use Rattle.std.proofs.lemmas.Bool.{eqb-true, eq-eqb}
use Rattle.maps.specs.Graph.{Street, Lowest, Placed, Leaves, tail_of, head_of, Enters}
use Rattle.formats.specs.Scan.{optional, lowest_in}
use Rattle.formats.proofs.Scans.{PassesTo, lowest_in_lowest}
use Rattle.block.specs.declared.cells.Side.{Side}
use Rattle.block.specs.Layout.{cell_count, cell_of, side_of, street_from, street_at, filled, inside, block_graph}
use Rattle.block.specs.Refusal.{Sound}
use Rattle.block.specs.Laws.{passed, filled_parts, leads_in, block_lawful}

tail_if : (b : Bool) (x : Street) (v : ℕ) → 0 < v → tail_of (cond b (Some x) None) ≡ v → (b ≡ true) × (x.0 ≡ v)
tail_if true x v p h = (refl, h)
tail_if false x v p h = absurd (omega arith)

-- a street that leaves v is filled, and in one of the four slots of cell v
pub leaves_slot : (bs : List ℕ) (v k : ℕ) → Leaves (block_graph bs) v k → (filled bs k ≡ true) × (k ≤ 4 * v) × (4 * v < k + 4) × (k ≤ 4 * cell_count bs)
leaves_slot bs v k l =
    let t = tail_if (filled bs k) (street_from bs (cell_of k) (side_of k)) v l.0 l.1 in
    let p = filled_parts bs k t.0 in
    let is = t.1 in
    (t.0, omega arith, omega arith, p.1)

-- a filled slot of cell v leaves v
pub slot_leaves : (bs : List ℕ) (v k : ℕ) → filled bs k ≡ true → cell_of k ≡ v → Leaves (block_graph bs) v k
slot_leaves bs v k f is = (omega arith, ap (λ b. tail_of (cond b (Some (street_from bs (cell_of k) (side_of k))) None)) f ∙ is)

head_if : (b : Bool) (x : Street) (v : ℕ) → 0 < v → head_of (cond b (Some x) None) ≡ v → b ≡ true
head_if true x v p h = refl
head_if false x v p h = absurd (omega arith)

-- a street that enters some junction has one of the block's slots
pub enters_slot : (bs : List ℕ) (v k : ℕ) → Enters (block_graph bs) v k → k ≤ 4 * cell_count bs
enters_slot bs v k l = (filled_parts bs k (head_if (filled bs k) (street_from bs (cell_of k) (side_of k)) v l.0 l.1)).1

-- two facts that hold of the same numbers above two bounds
lowest_above : (P Q : ℕ → Type 0) (a b : ℕ) (r : Option ℕ) → ((k : ℕ) → a < k → P k → (b < k) × Q k) → ((k : ℕ) → b < k → Q k → (a < k) × P k) → Lowest P a r → Lowest Q b r
lowest_above P Q a b None there back h = record { above = tt; here = tt; gap = λ k lo _ q. let p = back k lo q in h.gap k p.0 tt p.1 }
lowest_above P Q a b (Some e) there back h =
    let t = there e h.above h.here in
    record { above = t.0; here = t.1; gap = λ k lo lt q. let p = back k lo q in h.gap k p.0 lt p.1 }

-- the head of a slot is junction v
abbrev pub heads : ℕ → Option Street → Bool
heads v None = false
heads v (Some s) = eqb s.1 v

heads_true : (n v : ℕ) (o : Option Street) → Placed n o → heads v o ≡ true → (0 < v) × (head_of o ≡ v)
heads_true n v None p h = cc
heads_true n v (Some s) p h = let is = eqb-true s.1 v h in (omega (arith, p.2), is)

heads_from : (v : ℕ) (o : Option Street) → (0 < v) × (head_of o ≡ v) → heads v o ≡ true
heads_from v None h = absurd (omega (arith, h.0, h.1))
heads_from v (Some s) h = eq-eqb s.1 v h.1

module _ (bs : List ℕ) (v after : ℕ) where
  -- the first of the slots of cell v above a number that holds a street is the lowest there that leaves v
  pub lowest_leaving_is : (before : ℕ) → 0 < v → after ≤ before → 4 * v ≤ before + 4 → before ≤ 4 * v → ((k : ℕ) → after < k → 4 * v < k + 4 → before < k)
      → Lowest (Leaves (block_graph bs) v) after (optional (lowest_in (filled bs) before (4 * v)))
  lowest_leaving_is before some lo four hi least =
      lowest_above (PassesTo (filled bs) (4 * v)) (Leaves (block_graph bs) v) before after _
      (λ k above p. (omega arith, slot_leaves bs v k p.1 (omega (arith, p.0))))
      (λ k above l. let s = leaves_slot bs v k l in (least k above s.2, (s.1, s.0)))
      (lowest_in_lowest (filled bs) before (4 * v) hi)

  -- the first slot above a number that holds a street to v is the lowest there that enters v
  abbrev pub entering : ℕ → Bool
  entering k = heads v (street_at bs k)

  pub lowest_entering_is : Sound bs → after ≤ 4 * cell_count bs → Lowest (Enters (block_graph bs) v) after (optional (lowest_in entering after (4 * cell_count bs)))
  lowest_entering_is sound within =
      lowest_above (PassesTo entering (4 * cell_count bs)) (Enters (block_graph bs) v) after after _
      (λ k lo p. (lo, heads_true (cell_count bs) v (street_at bs k) ((block_lawful bs sound).placed k) p.1))
      (λ k lo l. (lo, (enters_slot bs v k l, heads_from v (street_at bs k) l)))
      (lowest_in_lowest entering after (4 * cell_count bs) within)

-- a filled slot's cell is one of the block's, and the neighbour at its side lies in the block
pub slot_beside : (bs : List ℕ) → Sound bs → (e j : ℕ) (s : Side) → j ≡ cell_of e → s ≡ side_of e → filled bs e ≡ true → (0 < j) × ((j ≤ cell_count bs) × (inside bs j s ≡ true))
slot_beside bs sound e j s cell side t =
    let p = filled_parts bs e t in
    rw (cell, side) ((omega arith, (omega (arith, p.0, p.1), leads_in bs (passed bs sound.0).sides e t)))
