-- Walks: one walk after another, and their lengths.
use Rattle.std.proofs.Common.{◌≡◌, ℕ, ◌<◌, ◌≤◌, true, List, [], ◌∷◌, ◌++◌, Some, None, Option, sym, refl, ap, ◌∙◌}
use Rattle.maps.specs.Graph.{Street}
use Rattle.lengths.specs.Kinds.{Kind, LawfulKind, Code}
use Rattle.walks.specs.Streets.{Streets, CodedStreets, empty_set}
use Rattle.walks.specs.Walks.{Walk, length_from, walk_length, street_length, Open}

-- the streets' lengths are codes
abbrev pub CodeLengths : Streets → Type 0
CodeLengths g = (e : ℕ) (a : Street) → g e ≡ Some a → Code a.2

-- every walk is open where nothing is closed
pub all_open : (w : List ℕ) → Open empty_set w
all_open [] = tt
all_open (e ∷ w) = (refl, all_open w)

-- a walk from a junction on the map ends on the map
pub walk_on_map : (g : Streets) (n m : ℕ) → CodedStreets g n m → (s : ℕ) (w : List ℕ) (t : ℕ) → Walk g s w t → (0 < s) × (s ≤ n) → (0 < t) × (t ≤ n)
walk_on_map g n m map s [] t l h = rw l at h
walk_on_map g n m map s (e ∷ w) t l h = walk_on_map g n m map l.0.1 w t l.3 (map.heads e l.0 l.1)

pub walk_append : (g : Streets) (s : ℕ) (w : List ℕ) (u : ℕ) (x : List ℕ) (t : ℕ) → Walk g s w u → Walk g u x t → Walk g s (w ++ x) t
walk_append g s [] u x t p q = rw p q
walk_append g s (e ∷ w) u x t p q = (p.0, p.1, p.2, walk_append g p.0.1 w u x t p.3 q)

pub length_append : (K : Kind) (g : Streets) (a : ℕ) (w x : List ℕ) → length_from K g a (w ++ x) ≡ length_from K g (length_from K g a w) x
length_append K g a [] x = refl
length_append K g a (e ∷ w) x = length_append K g (K.join a (street_length K (g e))) w x

module _ (K : Kind) (law : LawfulKind K) (g : Streets) (codes : CodeLengths g) where
  pub street_code : (e : ℕ) → Code (street_length K (g e))
  street_code e = go (g e) refl
    where
      go : (o : Option Street) → g e ≡ o → Code (street_length K o)
      go None h = law.zero_code
      go (Some a) h = codes e a h

  pub length_code : (a : ℕ) (w : List ℕ) → Code a → Code (length_from K g a w)
  length_code a [] c = c
  length_code a (e ∷ w) c = length_code (K.join a (street_length K (g e))) w (law.join_code a (street_length K (g e)) c (street_code e))

  -- a length no worse stays so along a walk
  pub length_mono : (a b : ℕ) (w : List ℕ) → Code a → Code b → K.no_worse a b ≡ true → K.no_worse (length_from K g a w) (length_from K g b w) ≡ true
  length_mono a b [] ca cb h = h
  length_mono a b (e ∷ w) ca cb h =
      let s = street_length K (g e) in let cs = street_code e in
      length_mono (K.join a s) (K.join b s) w (law.join_code a s ca cs) (law.join_code b s cb cs) (law.mono a b s ca cb cs h)

  -- a may be joined after the rest of the walk as well
  pub length_join : (a b : ℕ) (w : List ℕ) → Code a → Code b → length_from K g (K.join a b) w ≡ K.join a (length_from K g b w)
  length_join a b [] ca cb = refl
  length_join a b (e ∷ w) ca cb =
      let s = street_length K (g e) in let cs = street_code e in
      ap (λ (x : ℕ). length_from K g x w) (law.assoc a b s ca cb cs) ∙ length_join a (K.join b s) w ca (law.join_code b s cb cs)

  -- a length b before a walk is b joined with the walk's length
  pub length_before : (b : ℕ) (w : List ℕ) → Code b → length_from K g b w ≡ K.join b (walk_length K g w)
  length_before b w c = ap (λ (x : ℕ). length_from K g x w) (sym (law.unit b c)) ∙ length_join b K.zero w c law.zero_code

  pub walk_code : (w : List ℕ) → Code (walk_length K g w)
  walk_code w = length_code K.zero w law.zero_code

  -- it is no worse than with the walk
  pub length_grow : (b : ℕ) (w : List ℕ) → Code b → K.no_worse b (length_from K g b w) ≡ true
  length_grow b w c = rw (length_before b w c) (law.grow b (walk_length K g w) c (walk_code w))
