-- The run against the streets: walks turned round, and their lengths.
use Rattle.std.proofs.Common.{◌≡◌, ℕ, Bool, List, [], ◌∷◌, ◌++◌, Some, None, Option, sym, refl, ap, ◌∙◌, ap₂}
use Rattle.std.proofs.ByRecursion.{All-append, All-weaker}
use Rattle.std.specs.List.{AllByRecursion}
use Rattle.maps.specs.Graph.{Street, Graph, turned, reversed}
use Rattle.lengths.specs.Kinds.{Kind, LawfulKind, Code}
use Rattle.walks.specs.Streets.{Streets, Coded}
use Rattle.walks.specs.Walks.{Walk, length_from, street_length}
use Rattle.walks.specs.Claims.{UsableFrom, UsableTo, ReversedSound, ReversedComplete}
use Rattle.walks.proofs.Facts.{none≢some, same_some}
use Rattle.walks.proofs.Walks.{CodeLengths, walk_append, length_append, length_code, length_join}
use Rattle.walks.proofs.Runs.{run_sound, run_complete}

-- the street the other way round
abbrev pub turn : Street → Street
turn a = (a.1, a.0, a.2)

pub reversed_is : (G : Graph) (e : ℕ) (a : Street) → (reversed G).street e ≡ Some a → G.street e ≡ Some (turn a)
reversed_is G e a = go (G.street e) refl
  where
    go : (o : Option Street) → G.street e ≡ o → turned o ≡ Some a → G.street e ≡ Some (turn a)
    go None q s = absurd (none≢some refl s)
    go (Some b) q s = q ∙ ap (λ (x : Street). Some (turn x)) (same_some refl s)

pub reversed_made : (G : Graph) (e : ℕ) (a : Street) → G.street e ≡ Some a → (reversed G).street e ≡ Some (turn a)
reversed_made G e a q = ap turned q

pub reversed_coded : (G : Graph) → Coded G → Coded (reversed G)
reversed_coded G p =
    record {
      slots = λ e a q. p.slots e (turn a) (reversed_is G e a q);
      tails = λ e a q. p.heads e (turn a) (reversed_is G e a q);
      heads = λ e a q. p.tails e (turn a) (reversed_is G e a q);
      codes = λ e a q. p.codes e (turn a) (reversed_is G e a q);
    }

-- the list from its last to its first
abbrev pub back : List ℕ → List ℕ
back [] = []
back (e ∷ w) = back w ++ e ∷ []

pub all_back : (P : ℕ → Type 0) (w : List ℕ) → AllByRecursion P w → AllByRecursion P (back w)
all_back P [] h = tt
all_back P (e ∷ w) h = All-append P (back w) (e ∷ []) (all_back P w h.1) (h.0, tt)

-- h has the streets of g turned
module _ (g h : Streets) (turns : (e : ℕ) (a : Street) → g e ≡ Some a → h e ≡ Some (turn a)) where
  pub walk_back : (s : ℕ) (w : List ℕ) (t : ℕ) → Walk g s w t → Walk h t (back w) s
  walk_back s [] t l = sym l
  walk_back s (e ∷ w) t l =
      walk_append h t (back w) l.0.1 (e ∷ []) s (walk_back l.0.1 w t l.3) (turn l.0, turns e l.0 l.1, refl, l.2)

  module _ (K : Kind) (law : LawfulKind K) (codes : CodeLengths g) where
    pub length_back : (b s : ℕ) (w : List ℕ) (t : ℕ) → Code b → Walk g s w t → length_from K h b (back w) ≡ length_from K g b w
    length_back b s [] t c l = refl
    length_back b s (e ∷ w) t c l =
        let a = l.0 in
        let x = codes e a l.1 in
        length_append K h b (back w) (e ∷ [])
        ∙ ap₂ (λ (y : ℕ) (o : Option Street). K.join y (street_length K o)) (length_back b a.1 w t c l.3) (turns e a l.1)
        ∙ law.comm (length_from K g b w) a.2 (length_code K law g codes b w c) x
        ∙ sym (length_join K law g codes a.2 b w x c)
        ∙ ap (λ (y : ℕ). length_from K g y w) (law.comm a.2 b x c)
        ∙ ap (λ (o : Option Street). length_from K g (K.join b (street_length K o)) w) (sym l.1)

module _ (G : Graph) (ns : List ℕ) (F : ℕ → Bool) (r : ℕ) where
  usable_to : (e : ℕ) → UsableFrom (reversed G) ns F r e → UsableTo G ns F r e
  usable_to e h = (h.0, λ a q. h.1 (turn a) (reversed_made G e a q))

  usable_from : (e : ℕ) → UsableTo G ns F r e → UsableFrom (reversed G) ns F r e
  usable_from e h = (h.0, λ a q. h.1 (turn a) (reversed_is G e a q))

pub reversed_sound : ReversedSound
reversed_sound K law G map ns F r v e l s =
    let R = reversed G in let rm = reversed_coded G map in
    let x = run_sound K law R rm ns F r v e l s in (
      back x.0,
      walk_back R.street G.street (reversed_is G) r x.0 v x.1,
      all_back (UsableTo G ns F r) x.0 (All-weaker (UsableFrom R ns F r) (UsableTo G ns F r) (usable_to G ns F r) x.0 x.2),
      length_back R.street G.street (reversed_is G) K law rm.codes K.zero r x.0 v law.zero_code x.1 ∙ x.4,
    )

pub reversed_complete : ReversedComplete
reversed_complete K law G map ns F r v w l f =
    let R = reversed G in
    let c = run_complete K law R (reversed_coded G map) ns F r v (back w) (walk_back G.street R.street (reversed_made G) v w r l)
    (all_back (UsableFrom R ns F r) w (All-weaker (UsableTo G ns F r) (UsableFrom R ns F r) (usable_from G ns F r) w f)) in
    (c.0, c.1, c.2, rw (length_back G.street R.street (reversed_made G) K law map.codes K.zero v w r law.zero_code l) at c.3)
