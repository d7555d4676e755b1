-- Each open walk splits at the transit nodes into legs, and legs compose to open walks.
use Rattle.std.proofs.Common.{◌≡◌, ℕ, ◌+◌, ◌*◌, ◌≤◌, Bool, true, false, List, [], ◌∷◌, ◌++◌, Some, None, Option, sym, refl, ap, ◌∙◌, subst, inl, ⊎_elim, arith}
use Rattle.std.proofs.lemmas.Bool.{cases_Bool, cases_eq}
use Rattle.std.proofs.ByRecursion.{All-append}
use Rattle.maps.specs.Graph.{Street}
use Rattle.lengths.specs.Kinds.{Kind, LawfulKind, Code}
use Rattle.walks.specs.Streets.{Streets, empty_set}
use Rattle.walks.specs.Walks.{Walk, length_from, walk_length, street_length, Open, BestOpen}
use Rattle.walks.specs.Legs.{Legs, grid, Target}
use Rattle.walks.specs.Claims.{SameReach}
use Rattle.walks.proofs.Walks.{CodeLengths, all_open, walk_append, length_append, length_code, length_mono, length_before, walk_code, length_grow}
use Rattle.walks.proofs.Pieces.{Piece, Right, Tip, tip_more, piece_more, piece_empty}
use Rattle.walks.proofs.Grids.{grid_is, grid_made}

module _ (K : Kind) (law : LawfulKind K) (g : Streets) (codes : CodeLengths g) (N F : ℕ → Bool) (place : ℕ → ℕ) (k : ℕ) (D : Legs) (right : Right K g N F place k D) where
  pub leg_code : (i j l : ℕ) → D i j ≡ Some l → Code l
  leg_code i j l h = let x = right.sound i j l h in rw x.3 at (walk_code K law g codes x.0)

  pub grid_code : CodeLengths (grid D)
  grid_code e a q = leg_code a.0 a.1 a.2 (grid_is D e a q)

  -- ---- legs compose
  pub record Way (q i : ℕ) (d : List ℕ) : Type 0 where
    pub way : List ℕ
    pub leads : Walk g (place i) way (place q)
    pub clear : Open F way
    pub long : (b : ℕ) → Code b → length_from K g b way ≡ length_from K (grid D) b d

  pub composed : (q i : ℕ) (d : List ℕ) → Walk (grid D) i d q → Way q i d
  composed q i [] l = record { way = []; leads = ap place l; clear = tt; long = λ b c. refl }
  composed q i (e ∷ d) l =
      let a = l.0 in
      let x = right.sound a.0 a.1 a.2 (grid_is D e a l.1) in
      let y = composed q a.1 d l.3 in
      record {
        way = x.0 ++ y.way;
        leads = walk_append g (place i) x.0 (place a.1) y.way (place q) (subst (λ (z : ℕ). Walk g (place z) x.0 (place a.1)) l.2 x.1) y.leads;
        clear = All-append (λ j. F j ≡ false) x.0 y.way x.2 y.clear;
        long = λ b c.
            length_append K g b x.0 y.way
            ∙ ap (λ (z : ℕ). length_from K g z y.way) (length_before K law g codes b x.0 c ∙ ap (K.join b) x.3)
            ∙ y.long (K.join b a.2) (law.join_code b a.2 c (grid_code e a l.1))
            ∙ ap (λ (o : Option Street). length_from K (grid D) (K.join b (street_length K o)) d) (sym l.1);
      }

  -- ---- walks split
  -- what is joined on the right may be better
  mono_right : (a b c : ℕ) → Code a → Code b → Code c → K.no_worse a b ≡ true → K.no_worse (K.join c a) (K.join c b) ≡ true
  mono_right a b c ca cb cc h = rw (law.comm c a cc ca, law.comm c b cc cb) (law.mono a b c ca cb cc h)

  -- a leg in place of a piece
  leg : (i j : ℕ) → i ≤ k → Target k j → (i ≡ j → ⊥) → (x : List ℕ) → Piece g N F (place i) (place j) x → (b : ℕ) → Code b
      → (l : ℕ) × (grid D (i * 32 + j) ≡ Some (i, j, l)) × Code l × (K.no_worse (K.join b l) (length_from K g b x) ≡ true)
  leg i j hi hj ne x p b c =
      let d = right.complete i j hi hj ne x p in
      let cl = leg_code i j d.0 d.1 in (
        d.0,
        grid_made D i j d.0 (omega (arith, right.few)) d.1,
        cl,
        rw (length_before K law g codes b x c) (mono_right d.0 (walk_length K g x) b cl (walk_code K law g codes x) c d.2),
      )

  -- a way over the legs from i to q, after a length b, that is no worse than l
  abbrev pub Legged : ℕ → ℕ → ℕ → ℕ → Type 0
  Legged q i b l = (d : List ℕ) × Walk (grid D) i d q × (K.no_worse (length_from K (grid D) b d) l ≡ true)

  -- a leg first
  leg_first : (q i j l b a : ℕ) → grid D (i * 32 + j) ≡ Some (i, j, l) → Legged q j (K.join b l) a → Legged q i b a
  leg_first q i j l b a h d = ((i * 32 + j) ∷ d.0, ((i, j, l), h, refl, d.1), rw h d.2)

  legged_trans : (q i b a l : ℕ) → Code b → Code a → Code l → Legged q i b a → K.no_worse a l ≡ true → Legged q i b l
  legged_trans q i b a l cb ca cl d h = (d.0, d.1, law.trans (length_from K (grid D) b d.0) a l (length_code K law (grid D) grid_code b d.0 cb) ca cl d.2 h)

  -- from the piece x since node p, with the walk w ahead, to any node q but the start
  split_from : (q : ℕ) → Target k q → (w : List ℕ) (p : ℕ) → p ≤ k → (x : List ℕ) (u b : ℕ) → Code b → Piece g N F (place p) u x → Tip g N F x u → Walk g u w (place q) → Open F w
      → Legged q p b (length_from K g (length_from K g b x) w)
  split_from q hq [] p hp x u b c pc t l o =
      ⊎_elim (λ (h : p ≡ q). ([], h, length_grow K law g codes b x c))
      (λ h. let f = leg p q hp hq h x (rw l at pc) b c in leg_first q p q f.0 b (length_from K g b x) f.1 ([], refl, f.3))
      (cases_eq p q)
  split_from q hq (e ∷ w) p hp x u b c pc t l o =
      let a = l.0 in
      let y = x ++ e ∷ [] in
      let py = piece_more g N F (place p) u e x a pc t l.1 l.2 o.0 in
      let cy = length_code K law g codes b y c in
      let cyw = length_code K law g codes (length_from K g b y) w cy in
      subst (λ (z : ℕ). Legged q p b (length_from K g z w)) (length_append K g b x (e ∷ []))
      (⊎_elim
      (λ tr.
      let j = right.named a.1 tr in
      ⊎_elim
      (λ (h : j.0 ≡ p).
      legged_trans q p b (length_from K g b w) (length_from K g (length_from K g b y) w) c (length_code K law g codes b w c) cyw
      (split_from q hq w p hp [] a.1 b c (piece_empty g N F (place p) a.1 (ap place (sym h) ∙ j.3)) tt l.3 o.1)
      (length_mono K law g codes b (length_from K g b y) w c cy (length_grow K law g codes b y c)))
      (λ h.
      let f = leg p j.0 hp (inl (j.1, j.2)) (λ z. h (sym z)) y (subst (λ (z : ℕ). Piece g N F (place p) z y) (sym j.3) py) b c in
      let cj = law.join_code b f.0 c f.2 in
      let cjw = length_code K law g codes (K.join b f.0) w cj in
      legged_trans q p b (length_from K g (K.join b f.0) w) (length_from K g (length_from K g b y) w) c cjw cyw
      (leg_first q p j.0 f.0 b (length_from K g (K.join b f.0) w) f.1
      (split_from q hq w j.0 j.2 [] a.1 (K.join b f.0) cj (piece_empty g N F (place j.0) a.1 j.3) tt l.3 o.1))
      (length_mono K law g codes (K.join b f.0) (length_from K g b y) w cj cy f.3))
      (cases_eq j.0 p))
      (λ fl. split_from q hq w p hp y a.1 b c py (tip_more g N F x e a.1 fl) l.3 o.1) (cases_Bool (N a.1)))

  pub split : (q : ℕ) → Target k q → (w : List ℕ) → Walk g (place 0) w (place q) → Open F w → Legged q 0 K.zero (walk_length K g w)
  split q hq w l o = split_from q hq w 0 (omega arith) [] (place 0) K.zero law.zero_code (piece_empty g N F (place 0) (place 0) refl) tt l o

  -- ---- the best way over the legs is the best open way
  pub over_legs : (q : ℕ) → Target k q → (a : Option ℕ) → BestOpen K (grid D) empty_set 0 q a → BestOpen K g F (place 0) (place q) a
  over_legs q hq None h = λ w l o. let d = split q hq w l o in h d.0 d.1 (all_open d.0)
  over_legs q hq (Some a) h =
      let x = h.0 in
      let y = composed q 0 x.0 x.1 in (
        (y.way, y.leads, y.clear, y.long K.zero law.zero_code ∙ x.3),
        λ w l o.
            let d = split q hq w l o in
            law.trans a (walk_length K (grid D) d.0) (walk_length K g w)
            (rw x.3 at (walk_code K law (grid D) grid_code x.0)) (walk_code K law (grid D) grid_code d.0) (walk_code K law g codes w)
            (h.1 d.0 d.1 (all_open d.0)) d.2,
      )

  pub by_legs : (q : ℕ) → Target k q → (a : Option ℕ) → BestOpen K g F (place 0) (place q) a → BestOpen K (grid D) empty_set 0 q a
  by_legs q hq None h = λ d l o. let y = composed q 0 d l in h y.way y.leads y.clear
  by_legs q hq (Some a) h = ((d.0, d.1, all_open d.0, sym same), over)
    where
      x : (w : List ℕ) × Walk g (place 0) w (place q) × Open F w × (walk_length K g w ≡ a)
      x = h.0

      d : Legged q 0 K.zero (walk_length K g x.0)
      d = split q hq x.0 x.1 x.2

      over : (c : List ℕ) → Walk (grid D) 0 c q → Open empty_set c → K.no_worse a (walk_length K (grid D) c) ≡ true
      over c l o = let y = composed q 0 c l in rw (y.long K.zero law.zero_code) at (h.1 y.way y.leads y.clear)

      same : a ≡ walk_length K (grid D) d.0
      same =
          law.anti a (walk_length K (grid D) d.0) (rw x.3 at (walk_code K law g codes x.0)) (walk_code K law (grid D) grid_code d.0)
          (over d.0 d.1 (all_open d.0)) (rw x.3 at d.2)

  pub same_reach : (q : ℕ) → Target k q → SameReach g (grid D) F (place 0) (place q) q
  same_reach q hq =
      record {
        by_walk = λ x. let y = composed q 0 x.0 x.1 in (y.way, y.leads, y.clear);
        by_legs = λ x. let d = split q hq x.0 x.1 x.2 in (d.0, d.1, all_open d.0);
      }
