-- What build stores, record by record: trees, legs and the rows of the inverted index.
use Rattle.std.proofs.Common.{◌≡◌, ℕ, zero, suc, ◌+◌, ◌-◌, ◌<◌, ◌≤◌, Bool, cond, leb, List, [], ◌∷◌, ◌++◌, length, get_or, set, take, None, map, filter, sym, refl, ap, ◌∙◌, subst, ⊎_elim, arith, length-set}
use Rattle.std.proofs.lemmas.Grind.{elements}
use mathlib.Core.Path.{fun_ext}
use Rattle.std.proofs.lemmas.List.FromFn.{filter_of_map_range_with_len_more, sum_by-map-range_with_len_more}
use Rattle.std.proofs.lemmas.List.{map-id, get_or-take, get_or-set_same, get_or-set_other, length-take-le}
use Rattle.std.proofs.lemmas.Bool.{cases_eq}
use Rattle.std.proofs.lemmas.Bool.Decides.{nat_tests}
use Rattle.std.specs.List.{range_with_len, sum_by, count_by}
use Rattle.maps.specs.Graph.{Graph}
use Rattle.lengths.specs.Kinds.{Kind}
use Rattle.walks.specs.Runs.{Table}
use Rattle.walks.specs.Trees.{tree, holds_street, slot_in}
use Rattle.walks.specs.Legs.{Legs}
use Rattle.trees.specs.Trees.{table_of}
use Rattle.asks.specs.Held.{bit, closed_held}
use Rattle.asks.specs.Index.{tree_at, positions}
use Rattle.asks.specs.Handed.{stored_legs}
use Rattle.tables.specs.declared.TreeRecord.{TreeRecord}
use Rattle.tables.specs.declared.Holders.{Holders}
use Rattle.tables.specs.Tables.{no_record, no_holders, tree_in}
use Rattle.tables.specs.Rows.{with_row_to}
use Rattle.storing.specs.Records.{TreesStored, tree_legs, tree_positions}

-- ---- trees
-- closed streets are counted junction by junction
pub closed_held-count_by : (F : ℕ → Bool) (T : Table) (n : ℕ) → closed_held F T n ≡ count_by (λ v. slot_in F (T v)) (range_with_len 1 n)
closed_held-count_by F T n = mapped n ∙ ap (sum_by held) (map-id (range_with_len 1 n))
  where
    held : ℕ → ℕ
    held v = bit (slot_in F (T v))

    mapped : (n : ℕ) → closed_held F T n ≡ sum_by held (map (λ v. v) (range_with_len 1 n))
    mapped zero = refl
    mapped (suc n) =
        let e : n + 1 ≡ suc n = omega arith in
        ap (λ k. k + held (suc n)) (mapped n) ∙ subst (λ m. sum_by held (map (λ v. v) (range_with_len 1 n)) + held (suc n) ≡ sum_by held (map (λ v. v) (range_with_len 1 m))) e
        (sym (sum_by-map-range_with_len_more held (λ v. v) 1 n (suc n) (omega arith)))

-- one record more
pub trees_more : (K : Kind) (G : Graph) (ns : List ℕ) (F : ℕ → Bool) (rs : List TreeRecord) (m : ℕ) (new : TreeRecord) → m < length rs
    → table_of new.tree ≡ tree K G ns (get_or ns m 0) → new.closed ≡ closed_held F (table_of new.tree) G.junctions
    → TreesStored K G ns F rs m → TreesStored K G ns F (set rs m new) (m + 1)
trees_more K G ns F rs m new within is count h = record {
  within = simp length-set (omega arith);
  trees = λ i lt. grind (arith, elements, h.trees);
  counts = λ i lt. grind (arith, elements, h.counts);
}

-- the records of the list alone
pub trees_taken : (K : Kind) (G : Graph) (ns : List ℕ) (F : ℕ → Bool) (rs : List TreeRecord) (m : ℕ) → TreesStored K G ns F rs m → TreesStored K G ns F (take m rs) m
trees_taken K G ns F rs m h = record {
  within = let long = h.within in simp length-take-le (omega arith);
  trees = λ i lt. ap (λ r. table_of r.tree) (get_or-take m rs i no_record lt) ∙ h.trees i lt;
  counts = λ i lt. ap (λ r. r.closed) (get_or-take m rs i no_record lt) ∙ h.counts i lt;
}

-- ---- legs
-- the legs from positions 1 to m
unfoldable pub tree_legs_up_to : ℕ → List TreeRecord → List ℕ → Legs
tree_legs_up_to m rs ns i j = cond (leb i m) (tree_legs rs ns i j) None

module _ (rs : List TreeRecord) (ns : List ℕ) where
  pub legs_none : tree_legs_up_to 0 rs ns ≡ (λ _ _. None)
  unfolding tree_legs_up_to
  legs_none = fun_ext (λ i. fun_ext (λ j. grind (arith, nat_tests)))

  pub legs_all : (m : ℕ) → length ns ≤ m → tree_legs_up_to m rs ns ≡ tree_legs rs ns
  unfolding tree_legs_up_to
  legs_all m le = fun_ext (λ i. fun_ext (λ j. grind (arith, nat_tests)))

  pub legs_more : (m : ℕ) → with_row_to (length ns) ns (m + 1) (table_of (get_or rs m no_record).tree) (tree_legs_up_to m rs ns) ≡ tree_legs_up_to (m + 1) rs ns
  unfolding tree_legs_up_to
  legs_more m = fun_ext (λ i. fun_ext (λ j. grind (arith, nat_tests)))

-- over the trees of the list they are the stored legs
pub legs_stored : (K : Kind) (G : Graph) (ns : List ℕ) (F : ℕ → Bool) (rs : List TreeRecord) → TreesStored K G ns F rs (length ns) → tree_legs rs ns ≡ stored_legs K G ns
legs_stored K G ns F rs h = fun_ext (λ i. fun_ext (λ j. grind (arith, nat_tests, h.trees)))

-- ---- the inverted index
-- a tree more
pub holders_more : (G : Graph) (rs : List TreeRecord) (k e : ℕ) → tree_positions G rs (k + 1) e ≡ tree_positions G rs k e ++ cond (holds_street G (table_of (get_or rs k no_record).tree) e) ((k + 1) ∷ []) []
holders_more G rs k e =
    let p : ℕ → Bool = λ i. holds_street G (tree_in rs i) e in
    let before : k + 1 - 1 ≡ k = omega arith in
    ap (filter p) (sym (map-id (range_with_len 1 (k + 1))))
    ∙ filter_of_map_range_with_len_more p (λ x. x) 1 k (k + 1) (omega arith)
    ∙ ap (λ (xs : List ℕ). filter p xs ++ cond (p (k + 1)) ((k + 1) ∷ []) []) (map-id (range_with_len 1 k))
    ∙ ap (λ (x : ℕ). tree_positions G rs k e ++ cond (holds_street G (table_of (get_or rs x no_record).tree) e) ((k + 1) ∷ []) []) before

-- a row more
pub row_more : (P : ℕ → Holders → Type 0) (hs : List Holders) (at : ℕ) (h : Holders) → at < length hs → P (at + 1) h → ((e : ℕ) → 0 < e → e ≤ at → P e (get_or hs (e - 1) no_holders))
    → (e : ℕ) → 0 < e → e ≤ at + 1 → P e (get_or (set hs at h) (e - 1) no_holders)
row_more P hs at h lt here before e lo hi =
    ⊎_elim
    (λ (p : e ≡ at + 1).
    let q : e - 1 ≡ at = omega arith in
    rw (q, get_or-set_same hs at h no_holders lt, p) here)
    (λ p.
    let q : e - 1 ≡ at → ⊥ = λ z. p (omega arith) in
    rw (get_or-set_other hs at (e - 1) h no_holders q) (before e lo (omega arith)))
    (cases_eq e (at + 1))

-- over the trees of the list they are the positions of the inverted index
pub index_stored : (K : Kind) (G : Graph) (ns : List ℕ) (F : ℕ → Bool) (rs : List TreeRecord) → TreesStored K G ns F rs (length ns) → (e : ℕ) → tree_positions G rs (length ns) e ≡ positions K G ns e
index_stored K G ns F rs h e = same 1 (length ns) (omega arith) (omega arith)
  where
    same : (a n : ℕ) → 0 < a → a + n ≤ length ns + 1 → filter (λ i. holds_street G (tree_in rs i) e) (range_with_len a n) ≡ filter (λ i. holds_street G (tree_at K G ns i) e) (range_with_len a n)
    same a zero lo hi = refl
    same a (suc n) lo hi = rw (h.trees (a - 1) (omega arith), same (a + 1) n (omega arith) (omega arith))
