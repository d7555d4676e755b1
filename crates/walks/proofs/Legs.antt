-- The legs by bounded runs are right, so the best way over them is the best open way.
use Rattle.std.proofs.Common.{◌≡◌, ℕ, suc, ◌-◌, ◌<◌, ◌≤◌, Bool, true, false, cond, not, ◌&&◌, ◌||◌, eqb, leb, List, [], ◌∷◌, length, get_or, Some, None, Option, refl, ap, ◌∙◌, inl, inr, ⊎_elim, arith}
use Rattle.std.proofs.lemmas.Bool.{or_cases, or_left, or_right, and_from, and_parts, both_ways, eqb-true, eqb-false, eq-eqb, ne_eqb, leb-true, le-leb, not-true, not_from_false}
use Rattle.std.proofs.ByRecursion.{All-weaker}
use Rattle.maps.specs.Graph.{Graph, reversed}
use Rattle.lengths.specs.Kinds.{Kind, LawfulKind, Code}
use Rattle.walks.specs.Streets.{member, Coded}
use Rattle.walks.specs.Walks.{Walk, walk_length, Open}
use Rattle.walks.specs.Runs.{Entry, bounded_run, length_of}
use Rattle.walks.specs.Legs.{Legs, Target, junction_of, leg_between, legs_of}
use Rattle.walks.specs.Claims.{UsableFrom, UsableTo, WalksSplit, LegsCompose, LegsAnswer, AnswerByLegs, ReachedByLegs}
use Rattle.walks.proofs.Facts.{none≢some, same_some}
use Rattle.walks.proofs.Runs.{run_sound, run_complete}
use Rattle.walks.proofs.Reversed.{reversed_sound, reversed_complete}
use Rattle.walks.proofs.Pieces.{Piece, Right, piece_from, piece_to}
use Rattle.walks.proofs.Splits.{leg_code, composed, split, over_legs, by_legs, same_reach}

-- between which nodes there may be a leg
pub between_is : (k i j : ℕ) → leg_between k i j ≡ true → (i ≤ k) × Target k j × (i ≡ j → ⊥)
between_is k i j h =
    let w = (leb 1 j && leb j k) || eqb j 31 in
    let a = and_parts (leb i k && w) (not (eqb i j)) h in
    let b = and_parts (leb i k) w a.0 in (
      leb-true i k b.0,
      ⊎_elim (λ e. let p = and_parts (leb 1 j) (leb j k) e in inl (leb-true 1 j p.0, leb-true j k p.1)) (λ e. inr (eqb-true j 31 e)) (or_cases (leb 1 j && leb j k) (eqb j 31) b.1),
      eqb-false i j (not-true (eqb i j) a.1),
    )

pub length_some : (o : Option Entry) (l : ℕ) → length_of o ≡ Some l → (e : ℕ) × (o ≡ Some (e, l))
length_some None l h = absurd (none≢some refl h)
length_some (Some x) l h = (x.0, ap (λ (k : ℕ). Some (x.0, k)) (same_some refl h))

-- a member of a list stands at some place
pub member_at : (ns : List ℕ) (v : ℕ) → member ns v ≡ true → (k : ℕ) × (k < length ns) × (get_or ns k 0 ≡ v)
member_at [] v h = absurd (both_ways false refl h)
member_at (x ∷ ns) v h =
    ⊎_elim (λ p. (0, omega arith, eqb-true x v p)) (λ p. let r = member_at ns v p in (suc r.0, omega arith, r.2)) (or_cases (eqb x v) (member ns v) h)

-- node k + 1 stands for the junction at place k of the list
pub junction_at_lem : (ns : List ℕ) (s t k : ℕ) → length ns ≤ 16 → k < length ns → junction_of ns s t (suc k) ≡ get_or ns k 0
junction_at_lem ns s t k few h =
    let a : eqb (suc k) 0 ≡ false = ne_eqb (suc k) 0 (omega arith) in
    let b : eqb (suc k) 31 ≡ false = ne_eqb (suc k) 31 (omega arith) in
    let c : suc k - 1 ≡ k = omega arith in
    rw (a, b, c)

module _ (K : Kind) (law : LawfulKind K) (G : Graph) (map : Coded G) (ns : List ℕ) (few : length ns ≤ 16) (F : ℕ → Bool) (s t : ℕ) where
  abbrev place : ℕ → ℕ
  place = junction_of ns s t

  abbrev D : Legs
  D = legs_of K G ns F s t

  -- l is the length of an open walk
  abbrev Leg : ℕ → ℕ → ℕ → Type 0
  Leg u v l = (w : List ℕ) × Walk G.street u w v × Open F w × (walk_length K G.street w ≡ l)

  forth_sound : (u v l : ℕ) → length_of (bounded_run K G ns F u v) ≡ Some l → Leg u v l
  forth_sound u v l h =
      let e = length_some (bounded_run K G ns F u v) l h in
      let x = run_sound K law G map ns F u v e.0 l e.1 in
      (x.0, x.1, All-weaker (UsableFrom G ns F u) (λ i. F i ≡ false) (λ i f. f.0) x.0 x.2, x.4)

  back_sound : (u l : ℕ) → length_of (bounded_run K (reversed G) ns F t u) ≡ Some l → Leg u t l
  back_sound u l h =
      let e = length_some (bounded_run K (reversed G) ns F t u) l h in
      let x = reversed_sound K law G map ns F t u e.0 l e.1 in
      (x.0, x.1, All-weaker (UsableTo G ns F t) (λ i. F i ≡ false) (λ i f. f.0) x.0 x.2, x.3)

  legs_sound : (i j l : ℕ) → D i j ≡ Some l → Leg (place i) (place j) l
  legs_sound i j l = go (leg_between (length ns) i j)
    where
      at : (b : Bool) → (eqb j 31 && not (eqb i 0)) ≡ b
          → cond b (length_of (bounded_run K (reversed G) ns F t (place i))) (length_of (bounded_run K G ns F (place i) (place j))) ≡ Some l → Leg (place i) (place j) l
      at true q h = let e : j ≡ 31 = eqb-true j 31 (and_parts (eqb j 31) (not (eqb i 0)) q).0 in rw e (back_sound (place i) l h)
      at false q h = forth_sound (place i) (place j) l h

      go : (b : Bool)
          → cond b (cond (eqb j 31 && not (eqb i 0)) (length_of (bounded_run K (reversed G) ns F t (place i))) (length_of (bounded_run K G ns F (place i) (place j)))) None ≡ Some l
          → Leg (place i) (place j) l
      go true h = at (eqb j 31 && not (eqb i 0)) refl h
      go false h = absurd (none≢some refl h)

  between : (i j : ℕ) → i ≤ length ns → Target (length ns) j → (i ≡ j → ⊥) → leg_between (length ns) i j ≡ true
  between i j hi hj ne =
      let k = length ns in
      let w = (leb 1 j && leb j k) || eqb j 31 in
      and_from (leb i k && w) (not (eqb i j))
      (and_from (leb i k) w (le-leb i k hi)
      (⊎_elim (λ h. or_left (leb 1 j && leb j k) (eqb j 31) (and_from (leb 1 j) (leb j k) (le-leb 1 j h.0) (le-leb j k h.1)))
      (λ h. or_right (leb 1 j && leb j k) (eqb j 31) (eq-eqb j 31 h)) hj))
      (not_from_false (eqb i j) (ne_eqb i j ne))

  -- there is a leg, no worse than the walk
  abbrev Covers : Option ℕ → List ℕ → Type 0
  Covers o w = (l : ℕ) × (o ≡ Some l) × (K.no_worse l (walk_length K G.street w) ≡ true)

  forth_complete : (u v : ℕ) (w : List ℕ) → Piece G.street (member ns) F u v w → Covers (length_of (bounded_run K G ns F u v)) w
  forth_complete u v w p =
      let c = run_complete K law G map ns F u v w p.leads (piece_from G ns F u v w p) in
      (c.1, ap length_of c.2, c.3)

  back_complete : (u : ℕ) (w : List ℕ) → Piece G.street (member ns) F u t w → Covers (length_of (bounded_run K (reversed G) ns F t u)) w
  back_complete u w p =
      let c = reversed_complete K law G map ns F t u w p.leads (piece_to G ns F u t w p) in
      (c.1, ap length_of c.2, c.3)

  legs_complete : (i j : ℕ) → i ≤ length ns → Target (length ns) j → (i ≡ j → ⊥) → (w : List ℕ) → Piece G.street (member ns) F (place i) (place j) w → Covers (D i j) w
  legs_complete i j hi hj ne w p = rw (between i j hi hj ne) (at (eqb j 31 && not (eqb i 0)) refl)
    where
      at : (b : Bool) → (eqb j 31 && not (eqb i 0)) ≡ b
          → Covers (cond b (length_of (bounded_run K (reversed G) ns F t (place i))) (length_of (bounded_run K G ns F (place i) (place j)))) w
      at true q = let e : j ≡ 31 = eqb-true j 31 (and_parts (eqb j 31) (not (eqb i 0)) q).0 in back_complete (place i) w (rw e at p)
      at false q = forth_complete (place i) (place j) w p

  pub legs_right : Right K G.street (member ns) F (junction_of ns s t) (length ns) (legs_of K G ns F s t)
  legs_right =
      record {
        few = omega arith;
        named = λ v h. let r = member_at ns v h in (suc r.0, omega arith, omega arith, junction_at_lem ns s t r.0 few r.1 ∙ r.2);
        sound = legs_sound;
        complete = legs_complete;
      }

-- every leg is a code
pub legs_code : (K : Kind) → LawfulKind K → (G : Graph) → Coded G → (ns : List ℕ) → length ns ≤ 16 → (F : ℕ → Bool) (s t i j l : ℕ) → legs_of K G ns F s t i j ≡ Some l → Code l
legs_code K law G map ns few F s t i j l h =
    leg_code K law G.street map.codes (member ns) F (junction_of ns s t) (length ns) (legs_of K G ns F s t) (legs_right K law G map ns few F s t) i j l h

-- ---- the theorems
pub walks_split : WalksSplit
walks_split K law G map ns few F s t q hq w l o =
    split K law G.street map.codes (member ns) F (junction_of ns s t) (length ns) (legs_of K G ns F s t) (legs_right K law G map ns few F s t) q hq w l o

pub legs_compose : LegsCompose
legs_compose K law G map ns few F s t q hq d l =
    let y = composed K law G.street map.codes (member ns) F (junction_of ns s t) (length ns) (legs_of K G ns F s t) (legs_right K law G map ns few F s t) q 0 d l in
    (y.way, y.leads, y.clear, y.long K.zero law.zero_code)

pub legs_answer : LegsAnswer
legs_answer K law G map ns few F s t q hq a h =
    over_legs K law G.street map.codes (member ns) F (junction_of ns s t) (length ns) (legs_of K G ns F s t) (legs_right K law G map ns few F s t) q hq a h

pub answer_by_legs : AnswerByLegs
answer_by_legs K law G map ns few F s t q hq a h =
    by_legs K law G.street map.codes (member ns) F (junction_of ns s t) (length ns) (legs_of K G ns F s t) (legs_right K law G map ns few F s t) q hq a h

pub reached_by_legs : ReachedByLegs
reached_by_legs K law G map ns few F s t q hq =
    same_reach K law G.street map.codes (member ns) F (junction_of ns s t) (length ns) (legs_of K G ns F s t) (legs_right K law G map ns few F s t) q hq
