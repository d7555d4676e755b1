-- Walks over some of the streets, and the streets that a bounded run may take.
use Rattle.std.proofs.Common.{◌≡◌, ℕ, Bool, true, false, cond, not, ◌||◌, eqb, ◌⊎◌, List, [], ◌∷◌, Some, None, Option, refl, inl, inr, ⊎_elim}
use Rattle.std.proofs.lemmas.Bool.{eqb-true, eq-eqb, or_cases, or_left, or_right, not-true}
use Rattle.std.specs.List.{AllByRecursion}
use Rattle.maps.specs.Graph.{Street, Graph}
use Rattle.lengths.specs.Kinds.{Kind}
use Rattle.walks.specs.Streets.{Streets, member, without, omit_if, bounded_to, bounded_at, run_streets, CodedStreets, Coded}
use Rattle.walks.specs.Walks.{Walk, length_from}
use Rattle.walks.specs.Claims.{UsableFrom}
use Rattle.walks.proofs.Facts.{none≢some, same_some}

-- h has streets of g only
abbrev pub Sub : Streets → Streets → Type 0
Sub h g = (e : ℕ) (a : Street) → h e ≡ Some a → g e ≡ Some a

pub sub_coded : (h g : Streets) (n m : ℕ) → Sub h g → CodedStreets g n m → CodedStreets h n m
sub_coded h g n m s p =
    record { slots = λ e a q. p.slots e a (s e a q); tails = λ e a q. p.tails e a (s e a q); heads = λ e a q. p.heads e a (s e a q); codes = λ e a q. p.codes e a (s e a q) }

pub walk_sub : (h g : Streets) → Sub h g → (s : ℕ) (w : List ℕ) (t : ℕ) → Walk h s w t → Walk g s w t
walk_sub h g p s [] t l = l
walk_sub h g p s (e ∷ w) t l = (l.0, p e l.0 l.1, l.2, walk_sub h g p l.0.1 w t l.3)

pub length_sub : (K : Kind) (h g : Streets) → Sub h g → (b s : ℕ) (w : List ℕ) (t : ℕ) → Walk h s w t → length_from K h b w ≡ length_from K g b w
length_sub K h g p b s [] t l = refl
length_sub K h g p b s (e ∷ w) t l =
    rw (l.1, p e l.0 l.1) (length_sub K h g p (K.join b l.0.2) l.0.1 w t l.3)

-- a walk of g whose every street h has is a walk of h
pub walk_into : (h g : Streets) (P : ℕ → Type 0) → ((e : ℕ) (a : Street) → P e → g e ≡ Some a → h e ≡ Some a) → (s : ℕ) (w : List ℕ) (t : ℕ) → Walk g s w t → AllByRecursion P w → Walk h s w t
walk_into h g P k s [] t l q = l
walk_into h g P k s (e ∷ w) t l q = (l.0, k e l.0 q.0 l.1, l.2, walk_into h g P k l.0.1 w t l.3 q.1)

-- each street of a walk of h has what every street of h has
pub walk_all : (h : Streets) (P : ℕ → Type 0) → ((e : ℕ) (a : Street) → h e ≡ Some a → P e) → (s : ℕ) (w : List ℕ) (t : ℕ) → Walk h s w t → AllByRecursion P w
walk_all h P k s [] t l = tt
walk_all h P k s (e ∷ w) t l = (k e l.0 l.1, walk_all h P k l.0.1 w t l.3)

module _ (F : ℕ → Bool) (g : Streets) where
  pub without_is : (e : ℕ) (a : Street) → without F g e ≡ Some a → (F e ≡ false) × (g e ≡ Some a)
  without_is e a = go (F e) refl
    where
      go : (b : Bool) → F e ≡ b → omit_if b (g e) ≡ Some a → (F e ≡ false) × (g e ≡ Some a)
      go true q s = absurd (none≢some refl s)
      go false q s = (q, s)

  pub without_made : (e : ℕ) (a : Street) → F e ≡ false → g e ≡ Some a → without F g e ≡ Some a
  without_made e a q s = rw q s

module _ (N : ℕ → Bool) (r : ℕ) (g : Streets) where
  -- the root, or no transit node
  abbrev pub May : ℕ → Type 0
  May v = (v ≡ r) ⊎ (N v ≡ false)

  pub bounded_is : (e : ℕ) (a : Street) → bounded_to N r g e ≡ Some a → (g e ≡ Some a) × May a.0
  bounded_is e a = go (g e) refl
    where
      at : (x : Street) → g e ≡ Some x → (b : Bool) → (eqb x.0 r || not (N x.0)) ≡ b → cond b (Some x) None ≡ Some a → (g e ≡ Some a) × May a.0
      at x q false p s = absurd (none≢some refl s)
      at x q true p s =
          let i : x ≡ a = same_some refl s in
          rw (← i) (q, ⊎_elim (λ z. inl (eqb-true x.0 r z)) (λ z. inr (not-true (N x.0) z)) (or_cases (eqb x.0 r) (not (N x.0)) p))

      go : (o : Option Street) → g e ≡ o → bounded_at N r o ≡ Some a → (g e ≡ Some a) × May a.0
      go None q s = absurd (none≢some refl s)
      go (Some x) q s = at x q (eqb x.0 r || not (N x.0)) refl s

  pub bounded_made : (e : ℕ) (a : Street) → g e ≡ Some a → May a.0 → bounded_to N r g e ≡ Some a
  bounded_made e a q y =
      let t : (eqb a.0 r || not (N a.0)) ≡ true = ⊎_elim (λ z. or_left (eqb a.0 r) (not (N a.0)) (eq-eqb a.0 r z)) (λ (z : N a.0 ≡ false). or_right (eqb a.0 r) (not (N a.0)) (rw z)) y in
      rw (q, t)

-- ---- the streets of a bounded run are those that a walk past no transit node but the root has
module _ (G : Graph) (ns : List ℕ) (F : ℕ → Bool) (r : ℕ) where
  pub run_sub : Sub (run_streets G ns F r) G.street
  run_sub e a q = (without_is F G.street e a (bounded_is (member ns) r (without F G.street) e a q).0).1

  pub run_usable : (e : ℕ) (a : Street) → run_streets G ns F r e ≡ Some a → UsableFrom G ns F r e
  run_usable e a q =
      let b = bounded_is (member ns) r (without F G.street) e a q in
      let o = without_is F G.street e a b.0 in
      (o.0, λ x p. rw (same_some p o.1) b.1)

  pub usable_run : (e : ℕ) (a : Street) → UsableFrom G ns F r e → G.street e ≡ Some a → run_streets G ns F r e ≡ Some a
  usable_run e a f q = bounded_made (member ns) r (without F G.street) e a (without_made F G.street e a f.0 q) (f.1 a q)

  pub run_coded : Coded G → CodedStreets (run_streets G ns F r) G.junctions G.slots
  run_coded c = sub_coded (run_streets G ns F r) G.street G.junctions G.slots run_sub c
