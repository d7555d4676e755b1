-- Every ask of a life is answered right, by the streets that the calls before it have closed.
use Rattle.std.proofs.Common.{◌≡◌, ℕ, zero, suc, Bool, true, false, cond, leb, List, [], ◌∷◌, take, Some, None, Ok, Err, Option, Result, sym, refl, ◌∙◌, subst, arith}
use Rattle.std.proofs.lemmas.Bool.{and_from, le-leb}
use Rattle.std.specs.List.{slice_get}
use Rattle.maps.specs.Graph.{Graph}
use Rattle.lengths.specs.Kinds.{Kind}
use Rattle.walks.specs.Walks.{BestOpen}
use Rattle.walks.specs.Trees.{OnMap}
use Rattle.calls.specs.Moments.{Moment, created, on_map, ask_fault, after}
use Rattle.calls.specs.Gives.{Replied, found, answer_of, RightAnswer, Gives}
use Rattle.calls.specs.Lives.{Life, after_all, closed_by}
use Rattle.calls.specs.Promise.{BestLength, LengthsBest, NoWayExactly, NoWaysExact}
use Rattle.calls.specs.Claims.{AsksInLives}
use Rattle.calls.specs.declared.Fault.{Fault}
use Rattle.calls.specs.declared.Fault.TheVariants.{StateLacks}
use Rattle.calls.specs.declared.Call.{Call}
use Rattle.calls.specs.declared.Call.TheVariants.{Ask}
use Rattle.calls.specs.declared.Answer.{Answer}
use Rattle.calls.specs.declared.Answer.TheVariants.{Length, Refused}
use Rattle.calls.specs.declared.Reply.{Reply}
use Rattle.calls.proofs.Following.{closures_follow}

-- ---- call i of a life
-- what call i answers
pub record AnswerAt (K : Kind) (G : Graph) (m : Moment) (c : Call) (a : Option Answer) : Type 0 where
  pub answer : Answer
  pub is : a ≡ Some answer
  pub gives : Gives K G m c answer

pub answer_at : (K : Kind) (G : Graph) (cs : List Call) (m : Moment) (rs : List Answer) → Life K G m cs rs → (i : ℕ) (c : Call) → slice_get cs i ≡ Some c
    → AnswerAt K G (after_all G m (take i cs)) c (slice_get rs i)
answer_at K G [] m rs l i c h = cc
answer_at K G (x ∷ cs) m [] l i c h = elim l [ ]
answer_at K G (x ∷ cs) m (a ∷ rs) l zero c h = record { answer = a; is = refl; gives = subst (λ (d : Call). Gives K G m d a) (cc) l.0 }
answer_at K G (x ∷ cs) m (a ∷ rs) l (suc i) c h = answer_at K G cs (after G m x) rs l.1 i c h

-- ---- lengths
module _ (K : Kind) (G : Graph) (m : Moment) (s t : ℕ) where
  best_found : (o : Option ℕ) (l q r : ℕ) → Length l q ≡ found o r → BestOpen K G.street m.closed s t o → BestLength K G.street m.closed s t l
  best_found None l q r e b = cc
  best_found (Some k) l q r e b =
      let z : k ≡ l = cc in
      record { walked = (b.0.0, b.0.1, b.0.2, b.0.3 ∙ z); best = λ w p o. rw z at (b.1 w p o) }

  best_replied : (r : Result Reply Fault) (l q : ℕ) → Replied K G m s t r → Length l q ≡ answer_of r → BestLength K G.street m.closed s t l
  best_replied (Ok y) l q h e = best_found y.length l q y.redone e h.1.0
  best_replied (Err f) l q h e = cc

  best_given : (b : Bool) (l q : ℕ) → cond b (RightAnswer K G m s t (Length l q)) (Length l q ≡ Refused StateLacks) → BestLength K G.street m.closed s t l
  best_given true l q h = best_replied h.0 l q h.1 h.2
  best_given false l q h = cc

-- ---- no way
on_true : (G : Graph) (v : ℕ) → OnMap G v → on_map G v ≡ true
on_true G v o = and_from (leb 1 v) (leb v G.junctions) (le-leb 1 v (omega arith)) (le-leb v G.junctions o.1)

pub ask_lawful : (G : Graph) (s t : ℕ) → OnMap G s → OnMap G t → ask_fault G s t ≡ None
ask_lawful G s t p q = rw (on_true G s p, on_true G t q)

module _ (K : Kind) (G : Graph) (m : Moment) (s t : ℕ) where
  way_found : (o : Option ℕ) (r : ℕ) → BestOpen K G.street m.closed s t o → NoWayExactly G.street m.closed s t (Some (found o r))
  way_found None r b = record {
    only = λ q e w. b w.0 w.1 w.2;
    no_way = λ n. (r, refl);
    otherwise = λ w. absurd (b w.0 w.1 w.2);
  }
  way_found (Some l) r b = record {
    only = λ q e w. cc;
    no_way = λ n. absurd (n (b.0.0, b.0.1, b.0.2));
    otherwise = λ w. (l, r, refl);
  }

  way_replied : (r : Result Reply Fault) → ask_fault G s t ≡ None → Replied K G m s t r → NoWayExactly G.street m.closed s t (Some (answer_of r))
  way_replied (Ok y) n h = way_found y.length y.redone h.1.0
  way_replied (Err f) n h = cc

  way_given : (b : Bool) (a : Answer) → b ≡ true → ask_fault G s t ≡ None → cond b (RightAnswer K G m s t a) (a ≡ Refused StateLacks)
      → NoWayExactly G.street m.closed s t (Some a)
  way_given true a e n h = rw h.2 (way_replied h.0 n h.1)
  way_given false a e n h = cc

-- ---- in a life
pub lengths_best : (K : Kind) (G : Graph) (cs : List Call) (rs : List Answer) → Life K G created cs rs → LengthsBest K G cs rs
lengths_best K G cs rs life i s t l r c a =
    let m = after_all G created (take i cs) in
    let g = answer_at K G cs created rs life i (Ask s t) c in
    subst (λ (F : ℕ → Bool). BestLength K G.street F s t l) (closures_follow G (take i cs)).closed
    (best_given K G m s t m.built l r (subst (λ (x : Answer). Gives K G m (Ask s t) x) (cc (g.is, a)) g.gives))

pub no_ways_exact : (K : Kind) (G : Graph) (cs : List Call) (rs : List Answer) → Life K G created cs rs → NoWaysExact G cs rs
no_ways_exact K G cs rs life i s t c b p q =
    let m = after_all G created (take i cs) in
    let f = closures_follow G (take i cs) in
    let g = answer_at K G cs created rs life i (Ask s t) c in
    subst (λ (x : Option Answer). NoWayExactly G.street (closed_by G (take i cs)) s t x) (sym g.is)
    (subst (λ (F : ℕ → Bool). NoWayExactly G.street F s t (Some g.answer)) f.closed
    (way_given K G m s t m.built g.answer (f.built ∙ b) (ask_lawful G s t p q) g.gives))

pub asks_in_lives : AsksInLives
asks_in_lives K G cs rs life = record { lengths = lengths_best K G cs rs life; no_ways = no_ways_exact K G cs rs life }
