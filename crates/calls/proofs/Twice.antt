-- Two lives. Apart from redone, the closes, reopens, asks and tallies of an orderly life are the life of an index without transit nodes.
use Rattle.std.proofs.Common.{◌≡◌, ℕ, Bool, true, false, cond, List, [], ◌∷◌, Some, None, Ok, Err, Option, Result, sym, refl, ap, ◌∙◌, subst, ap₂}
use mathlib.Core.Path.{fun_ext}
use Rattle.maps.specs.Graph.{Graph}
use Rattle.lengths.specs.Kinds.{Kind}
use Rattle.walks.specs.Streets.{Streets}
use Rattle.walks.proofs.Runs.{lawful_is_coded}
use Rattle.calls.specs.Moments.{Moment, created, name_fault, close_fault, reopen_fault, ask_fault, unless, with_name, with_mark, with_ask, as_index, as_plan, after}
use Rattle.calls.specs.Gives.{said, Replied, found, answer_of, RightAnswer, Gives}
use Rattle.calls.specs.Lives.{Life, has_call, OrderlyFrom, tells, telling, apart_from_redone, told}
use Rattle.calls.specs.Claims.{TwoLives, PromiseKept}
use Rattle.calls.specs.declared.Fault.{Fault}
use Rattle.calls.specs.declared.Fault.TheVariants.{StateLacks}
use Rattle.calls.specs.declared.Call.{Call}
use Rattle.calls.specs.declared.Call.TheVariants.{Name, Build, Close, Reopen, Ask, Tally, Replan}
use Rattle.calls.specs.declared.Answer.{Answer}
use Rattle.calls.specs.declared.Answer.TheVariants.{Count, Refused}
use Rattle.calls.specs.declared.Reply.{Reply}
use Rattle.calls.proofs.Following.{built_after_lem}
use Rattle.calls.proofs.Once.{life_once}
use Rattle.calls.proofs.Asking.{lengths_best, no_ways_exact}

-- an index without transit nodes, with the same closures and tally
abbrev bare : Moment → Moment
bare m = record { built = true; listed = []; closed = m.closed; tally = m.tally }

-- a map without its slot count
abbrev uncounted : ℕ → Streets → Graph
uncounted n g = record { junctions = n; slots = 0; street = g }

abbrev streets_of : Graph → Graph
streets_of G = uncounted G.junctions G.street

-- ---- what a call leaves
bare_unless : (f : Option Fault) (x y : Moment) → bare (unless f x y) ≡ unless f (bare x) (bare y)
bare_unless None x y = refl
bare_unless (Some f) x y = refl

bare_same : (f : Option Fault) (x y : Moment) → bare y ≡ bare x → bare (unless f x y) ≡ bare x
bare_same None x y e = e
bare_same (Some f) x y e = refl

bare_cond : (b : Bool) (x y z : Moment) → bare x ≡ z → bare y ≡ z → bare (cond b x y) ≡ z
bare_cond true x y z p q = p
bare_cond false x y z p q = q

-- a call of the index that may be refused
bare_step : (b : Bool) (f : Option Fault) (x y : Moment) → b ≡ true → bare (cond b (unless f x y) x) ≡ unless f (bare x) (bare y)
bare_step true f x y e = bare_unless f x y
bare_step false f x y e = cc

-- one that tells leaves what it leaves of the bare index
tells_leave : (G : Graph) (m : Moment) (c : Call) → tells c ≡ true → has_call m.built c ≡ true → bare (after G m c) ≡ after (streets_of G) (bare m) c
tells_leave G m (Name v) h o = cc
tells_leave G m Build h o = cc
tells_leave G m (Close e) h o = bare_step m.built (close_fault G m.closed e) m (with_mark m e true) o
tells_leave G m (Reopen e) h o = bare_step m.built (reopen_fault G m.closed e) m (with_mark m e false) o
tells_leave G m (Ask s t) h o = bare_step m.built (ask_fault G s t) m (with_ask m) o
tells_leave G m Tally h o = refl
tells_leave G m Replan h o = cc

-- and any other leaves the bare index as it is
others_leave : (G : Graph) (m : Moment) (c : Call) → tells c ≡ false → bare (after G m c) ≡ bare m
others_leave G m (Name v) h = bare_cond m.built m (unless (name_fault G m.listed v) m (with_name m v)) (bare m) refl (bare_same (name_fault G m.listed v) m (with_name m v) refl)
others_leave G m Build h = bare_cond m.built m (as_index m) (bare m) refl refl
others_leave G m (Close e) h = cc
others_leave G m (Reopen e) h = cc
others_leave G m (Ask s t) h = cc
others_leave G m Tally h = refl
others_leave G m Replan h = bare_cond m.built (as_plan m) m (bare m) refl refl

-- ---- what a call answers
apart_found : (o : Option ℕ) (r : ℕ) → apart_from_redone (found o r) ≡ found o 0
apart_found None r = refl
apart_found (Some l) r = refl

apart_said : (f : Option Fault) → apart_from_redone (said f) ≡ said f
apart_said None = refl
apart_said (Some f) = refl

apart_replied : (K : Kind) (G : Graph) (m : Moment) (s t : ℕ) (r : Result Reply Fault) → Replied K G m s t r
    → RightAnswer K (streets_of G) (bare m) s t (apart_from_redone (answer_of r))
apart_replied K G m s t (Ok y) h = (Ok (record { length = y.length; redone = 0 }), (h.0, (h.1.0, refl)), apart_found y.length y.redone)
apart_replied K G m s t (Err f) h = (Err f, h, refl)

-- where an index says x, so does the bare index
apart_equal : (b : Bool) (a x : Answer) → b ≡ true → apart_from_redone x ≡ x → a ≡ cond b x (Refused StateLacks) → apart_from_redone a ≡ x
apart_equal true a x e p h = ap apart_from_redone h ∙ p
apart_equal false a x e p h = cc

tells_answer : (K : Kind) (G : Graph) (m : Moment) (c : Call) (a : Answer) → tells c ≡ true → has_call m.built c ≡ true
    → Gives K G m c a → Gives K (streets_of G) (bare m) c (apart_from_redone a)
tells_answer K G m (Name v) a h o p = cc
tells_answer K G m Build a h o p = cc
tells_answer K G m (Close e) a h o p = apart_equal m.built a (said (close_fault G m.closed e)) o (apart_said (close_fault G m.closed e)) p
tells_answer K G m (Reopen e) a h o p = apart_equal m.built a (said (reopen_fault G m.closed e)) o (apart_said (reopen_fault G m.closed e)) p
tells_answer K G m (Ask s t) a h o p = go m.built o p
  where
    go : (b : Bool) → b ≡ true → cond b (RightAnswer K G m s t a) (a ≡ Refused StateLacks) → RightAnswer K (streets_of G) (bare m) s t (apart_from_redone a)
    go true e q = subst (λ (x : Answer). RightAnswer K (streets_of G) (bare m) s t (apart_from_redone x)) (sym q.2) (apart_replied K G m s t q.0 q.1)
    go false e q = cc
tells_answer K G m Tally a h o p = apart_equal m.built a (Count m.tally) o refl p
tells_answer K G m Replan a h o p = cc

-- ---- a life
module _ (K : Kind) (G : Graph) where
  told_life : (cs : List Call) (m : Moment) (rs : List Answer) → OrderlyFrom m.built cs → Life K G m cs rs → Life K (streets_of G) (bare m) (telling cs) (told cs rs)
  told_life [] m [] o l = tt
  told_life [] m (a ∷ rs) o l = elim l [ ]
  told_life (c ∷ cs) m [] o l = elim l [ ]
  told_life (c ∷ cs) m (a ∷ rs) o l = go (tells c) refl (told_life cs (after G m c) rs (subst (λ (b : Bool). OrderlyFrom b cs) (sym (built_after_lem G m c)) o.1) l.1)
    where
      go : (b : Bool) → tells c ≡ b → Life K (streets_of G) (bare (after G m c)) (telling cs) (told cs rs)
          → Life K (streets_of G) (bare m) (cond b (c ∷ telling cs) (telling cs)) (cond b (apart_from_redone a ∷ told cs rs) (told cs rs))
      go true h rest = (
        tells_answer K G m c a h o.0 l.0,
        subst (λ (n : Moment). Life K (streets_of G) n (telling cs) (told cs rs)) (tells_leave G m c h o.0) rest,
      )
      go false h rest = subst (λ (n : Moment). Life K (streets_of G) n (telling cs) (told cs rs)) (others_leave G m c h) rest

pub two_lives : TwoLives
two_lives K law G H map cs ds rs ss l v alike o u e =
    life_once K law (streets_of G) (lawful_is_coded G map).codes (telling ds) (bare created) (told cs rs) (told ds ss)
    (subst (λ (x : List Call). Life K (streets_of G) (bare created) x (told cs rs)) e (told_life K G cs created rs o l))
    (subst (λ (x : Graph). Life K x (bare created) (telling ds) (told ds ss)) (ap₂ uncounted (sym alike.junctions) (sym (fun_ext alike.streets))) (told_life K H ds created ss u v))

pub promise_kept : PromiseKept
promise_kept K law G H map cs ds rs ss l v =
    record {
      first = l;
      second = v;
      lengths = (lengths_best K G cs rs l, lengths_best K H ds ss v);
      no_ways = (no_ways_exact K G cs rs l, no_ways_exact K H ds ss v);
      agree = two_lives K law G H map cs ds rs ss l v;
    }
