-- Trees and stored legs by walks past no other transit node.
use Rattle.std.proofs.Common.{◌≡◌, ℕ, ◌<◌, ◌≤◌, Bool, true, false, not, ◌&&◌, eqb, ◌⊎◌, List, length, is_some, Some, None, Option, refl, ap, subst, ⊎_elim}
use Rattle.std.proofs.lemmas.Bool.{cases_Bool, both_ways, and_parts, and_left, and_right, eq-eqb, not_from_true}
use Rattle.std.proofs.ByRecursion.{All-weaker}
use Rattle.std.specs.List.{AllByRecursion}
use Rattle.maps.specs.Graph.{Street, Graph}
use Rattle.lengths.specs.Kinds.{Kind, LawfulKind}
use Rattle.walks.specs.Streets.{empty_set, member, Coded}
use Rattle.walks.specs.Walks.{Walk, walk_length}
use Rattle.walks.specs.Runs.{Entry, length_of}
use Rattle.walks.specs.Trees.{Tells, tree, Holds}
use Rattle.walks.specs.Claims.{UsableFrom}
use Rattle.walks.proofs.Facts.{none≢some, same_some}
use Rattle.walks.proofs.Runs.{run_sound, run_complete}
use Rattle.asks.specs.Index.{node_at}
use Rattle.asks.specs.Handed.{is_position, stored_legs}
use Rattle.asks.specs.Bounded.{PastNoOther, LeadsPast, BestPast}
use Rattle.asks.specs.Claims.{TreesInWords, StoredInWords}
use Rattle.asks.proofs.Handing.{position_is, stored_is}

-- a right length is there exactly if such a walk is
pub past_tells : (K : Kind) (G : Graph) (ns : List ℕ) (u v : ℕ) (o : Option ℕ) → BestPast K G ns u v o → Tells (is_some o) (LeadsPast G ns u v)
past_tells K G ns u v None h = (λ b. absurd (both_ways false refl b), λ _ x. h x.0 x.1 x.2)
past_tells K G ns u v (Some l) h = (λ _. (h.0.0, h.0.1, h.0.2), λ b. absurd (both_ways true b refl))

module _ (G : Graph) (ns : List ℕ) (u : ℕ) where
  abbrev Leaves : ℕ → Type 0
  Leaves e = (a : Street) → G.street e ≡ Some a → (a.0 ≡ u) ⊎ (member ns a.0 ≡ false)

  usable : (w : List ℕ) → PastNoOther G ns u w → AllByRecursion (UsableFrom G ns empty_set u) w
  usable w p = All-weaker Leaves (UsableFrom G ns empty_set u) (λ e f. (refl, f)) w p

  past : (w : List ℕ) → AllByRecursion (UsableFrom G ns empty_set u) w → PastNoOther G ns u w
  past w p = All-weaker (UsableFrom G ns empty_set u) Leaves (λ e f. f.1) w p

module _ (K : Kind) (law : LawfulKind K) (G : Graph) (map : Coded G) (ns : List ℕ) (u : ℕ) where
  pub tree_own : (v e l : ℕ) → tree K G ns u v ≡ Some (e, l)
      → (w : List ℕ) × Walk G.street u w v × PastNoOther G ns u w × AllByRecursion (Holds (tree K G ns u)) w × (walk_length K G.street w ≡ l)
  tree_own v e l s = let x = run_sound K law G map ns empty_set u v e l s in (x.0, x.1, past G ns u x.0 x.2, x.3, x.4)

  pub tree_best : (v : ℕ) → BestPast K G ns u v (length_of (tree K G ns u v))
  tree_best v = go (tree K G ns u v) refl
    where
      go : (o : Option Entry) → tree K G ns u v ≡ o → BestPast K G ns u v (length_of o)
      go None q = λ w l p. none≢some q (run_complete K law G map ns empty_set u v w l (usable G ns u w p)).2
      go (Some x) q =
          let y = tree_own v x.0 x.1 q in (
            (y.0, y.1, y.2, y.4),
            λ w l p. let c = run_complete K law G map ns empty_set u v w l (usable G ns u w p) in rw (ap (λ (z : Entry). z.1) (same_some c.2 q)) at c.3,
          )

some_length : (o : Option Entry) → is_some (length_of o) ≡ is_some o
some_length None = refl
some_length (Some x) = refl

pub trees_in_words : TreesInWords
trees_in_words K law G map ns u =
    record {
      has = λ v.
          let b = tree_best K law G map ns u v in
          subst (λ (x : Bool). Tells x (LeadsPast G ns u v)) (some_length (tree K G ns u v)) (past_tells K G ns u v (length_of (tree K G ns u v)) b);
      best = tree_best K law G map ns u;
      own = tree_own K law G map ns u;
    }

pub stored_in_words : StoredInWords
stored_in_words K law G map ns =
    record {
      has = λ i j a b c d n. past_tells K G ns (node_at ns i) (node_at ns j) (stored_legs K G ns i j) (best i j a b c d n);
      best = best;
      itself = λ i. rw (and_right (is_position k i && is_position k i) (not (eqb i i)) (not_from_true (eqb i i) (eq-eqb i i refl)));
      outside = λ i j h. rw (and_left (is_position k i && is_position k j) (not (eqb i j)) (apart i j h));
    }
  where
    k : ℕ
    k = length ns

    best : (i j : ℕ) → 0 < i → i ≤ k → 0 < j → j ≤ k → (i ≡ j → ⊥) → BestPast K G ns (node_at ns i) (node_at ns j) (stored_legs K G ns i j)
    best i j a b c d n = rw (stored_is K G ns i j a b c d n) (tree_best K law G map ns (node_at ns i) (node_at ns j))

    apart : (i j : ℕ) → ((0 < i) × (i ≤ k) × (0 < j) × (j ≤ k) → ⊥) → (is_position k i && is_position k j) ≡ false
    apart i j h =
        ⊎_elim
        (λ p.
        let q = and_parts (is_position k i) (is_position k j) p in
        let x = position_is k i q.0 in let y = position_is k j q.1 in
        absurd (h (x.0, x.1, y.0, y.1)))
        (λ p. p) (cases_Bool (is_position k i && is_position k j))
