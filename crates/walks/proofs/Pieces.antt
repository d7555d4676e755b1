-- Pieces: open walks that pass no transit node on the way, and how the runs bound them.
use Rattle.std.proofs.Common.{◌≡◌, ℕ, ◌<◌, ◌≤◌, Bool, true, false, ◌⊎◌, List, [], ◌∷◌, ◌++◌, Some, refl, inl, inr}
use Rattle.std.proofs.ByRecursion.{All-append, All-weaker}
use Rattle.std.specs.List.{AllByRecursion}
use Rattle.maps.specs.Graph.{Street, Graph}
use Rattle.lengths.specs.Kinds.{Kind}
use Rattle.walks.specs.Streets.{Streets, member}
use Rattle.walks.specs.Walks.{Walk, walk_length, Open}
use Rattle.walks.specs.Legs.{Legs, Target}
use Rattle.walks.specs.Claims.{UsableFrom, UsableTo}
use Rattle.walks.proofs.Facts.{same_some, all_both}
use Rattle.walks.proofs.Walks.{walk_append}

-- street e leaves no transit node
abbrev pub Plain : Streets → (ℕ → Bool) → ℕ → Type 0
Plain g N e = (a : Street) → g e ≡ Some a → N a.0 ≡ false

-- the streets after the first leave no transit node
abbrev pub Inner : Streets → (ℕ → Bool) → List ℕ → Type 0
Inner g N [] = Unit {0}
Inner g N (e ∷ w) = AllByRecursion (Plain g N) w

-- an open walk from u to v past no transit node
pub record Piece (g : Streets) (N F : ℕ → Bool) (u v : ℕ) (w : List ℕ) : Type 0 where
  pub leads : Walk g u w v
  pub clear : Open F w
  pub inner : Inner g N w

-- the legs are those of the streets: node i, 0 to k, stands for the junction place i, and so does the goal
pub record Right (K : Kind) (g : Streets) (N F : ℕ → Bool) (place : ℕ → ℕ) (k : ℕ) (D : Legs) : Type 0 where
  pub few : k < 31
  -- each transit node is a node of 1 to k
  pub named : (v : ℕ) → N v ≡ true → (j : ℕ) × (0 < j) × (j ≤ k) × (place j ≡ v)
  -- each leg is the length of an open walk
  pub sound : (i j l : ℕ) → D i j ≡ Some l → (w : List ℕ) × Walk g (place i) w (place j) × Open F w × (walk_length K g w ≡ l)
  -- and no open walk past no transit node is better
  pub complete : (i j : ℕ) → i ≤ k → Target k j → (i ≡ j → ⊥) → (w : List ℕ) → Piece g N F (place i) (place j) w → (l : ℕ) × (D i j ≡ Some l) × (K.no_worse l (walk_length K g w) ≡ true)

-- ---- a piece grows by one street
module _ (g : Streets) (N F : ℕ → Bool) where
  -- the piece so far is empty, or has come to a junction that is no transit node
  abbrev pub Tip : List ℕ → ℕ → Type 0
  Tip [] u = Unit {0}
  Tip (e ∷ x) u = N u ≡ false

  pub tip_more : (x : List ℕ) (e u : ℕ) → N u ≡ false → Tip (x ++ e ∷ []) u
  tip_more [] e u h = h
  tip_more (y ∷ x) e u h = h

  inner_more : (x : List ℕ) (u e : ℕ) (a : Street) → Inner g N x → Tip x u → g e ≡ Some a → a.0 ≡ u → Inner g N (x ++ e ∷ [])
  inner_more [] u e a i t q h = tt
  inner_more (y ∷ x) u e a i t q h = All-append (Plain g N) x (e ∷ []) i ((λ b p. rw (same_some p q, h) t), tt)

  pub piece_more : (r u e : ℕ) (x : List ℕ) (a : Street) → Piece g N F r u x → Tip x u → g e ≡ Some a → a.0 ≡ u → F e ≡ false → Piece g N F r a.1 (x ++ e ∷ [])
  piece_more r u e x a p t q h o =
      record {
        leads = walk_append g r x u (e ∷ []) a.1 p.leads (a, q, h, refl);
        clear = All-append (λ i. F i ≡ false) x (e ∷ []) p.clear (o, tt);
        inner = inner_more x u e a p.inner t q h;
      }

  pub piece_empty : (r v : ℕ) → r ≡ v → Piece g N F r v []
  piece_empty r v h = record { leads = h; clear = tt; inner = tt }

-- ---- the runs along the streets and against them meet every piece
module _ (G : Graph) (ns : List ℕ) (F : ℕ → Bool) where
  -- street e enters v or no transit node
  abbrev Into : ℕ → ℕ → Type 0
  Into v e = (a : Street) → G.street e ≡ Some a → (a.1 ≡ v) ⊎ (member ns a.1 ≡ false)

  ends : (u : ℕ) (w : List ℕ) (v : ℕ) → Walk G.street u w v → AllByRecursion (Plain G.street (member ns)) w → ((u ≡ v) ⊎ (member ns u ≡ false)) × AllByRecursion (Into v) w
  ends u [] v l i = (inl l, tt)
  ends u (e ∷ w) v l i =
      let r = ends l.0.1 w v l.3 i.1 in
      (inr (rw l.2 at (i.0 l.0 l.1)), ((λ a q. rw (same_some q l.1) r.0), r.1))

  pub piece_from : (u v : ℕ) (w : List ℕ) → Piece G.street (member ns) F u v w → AllByRecursion (UsableFrom G ns F u) w
  piece_from u v [] p = tt
  piece_from u v (e ∷ w) p =
      let l = p.leads in
      let Q = λ (i : ℕ). (F i ≡ false) × Plain G.street (member ns) i in (
        (p.clear.0, λ a q. inl (rw (same_some q l.1) l.2)),
        All-weaker Q (UsableFrom G ns F u) (λ i h. (h.0, λ a q. inr (h.1 a q))) w (all_both (λ i. F i ≡ false) (Plain G.street (member ns)) w p.clear.1 p.inner),
      )

  pub piece_to : (u v : ℕ) (w : List ℕ) → Piece G.street (member ns) F u v w → AllByRecursion (UsableTo G ns F v) w
  piece_to u v [] p = tt
  piece_to u v (e ∷ w) p =
      let l = p.leads in
      let r = ends l.0.1 w v l.3 p.inner in
      all_both (λ i. F i ≡ false) (Into v) (e ∷ w) p.clear ((λ a q. rw (same_some q l.1) r.0), r.1)
