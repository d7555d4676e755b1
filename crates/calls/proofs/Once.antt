-- Each call has one answer, so a list of calls has one life.
use Rattle.std.proofs.Common.{◌≡◌, ℕ, Bool, true, false, cond, List, [], ◌∷◌, Ok, Err, Result, sym, refl, ◌∙◌, ap₂}
use Rattle.maps.specs.Graph.{Graph}
use Rattle.lengths.specs.Kinds.{Kind, LawfulKind}
use Rattle.walks.proofs.Walks.{CodeLengths}
use Rattle.walks.proofs.Runs.{lawful_is_coded}
use Rattle.walks.proofs.OneAnswer.{best_open_one}
use Rattle.asks.proofs.Counting.{redone_once}
use Rattle.calls.specs.Moments.{Moment, created, after}
use Rattle.calls.specs.Gives.{Replied, found, answer_of, RightAnswer, Gives}
use Rattle.calls.specs.Lives.{Life}
use Rattle.calls.specs.Claims.{LivesOnce}
use Rattle.calls.specs.declared.Fault.{Fault}
use Rattle.calls.specs.declared.Fault.TheVariants.{StateLacks}
use Rattle.calls.specs.declared.Call.{Call}
use Rattle.calls.specs.declared.Call.TheVariants.{Name, Build, Close, Reopen, Ask, Tally, Replan}
use Rattle.calls.specs.declared.Answer.{Answer}
use Rattle.calls.specs.declared.Answer.TheVariants.{Refused}
use Rattle.calls.specs.declared.Reply.{Reply}

module _ (K : Kind) (law : LawfulKind K) (G : Graph) (codes : CodeLengths G.street) where
  replied_once : (m : Moment) (s t : ℕ) (x y : Result Reply Fault) → Replied K G m s t x → Replied K G m s t y → answer_of x ≡ answer_of y
  replied_once m s t (Err f) (Err g) p q = cc
  replied_once m s t (Err f) (Ok y) p q = cc
  replied_once m s t (Ok x) (Err g) p q = cc
  replied_once m s t (Ok x) (Ok y) p q =
      ap₂ found (best_open_one K law G.street codes m.closed s t x.length y.length p.1.0 q.1.0)
      (redone_once K G m.listed m.closed s x.redone y.redone p.1.1 q.1.1)

  asked_once : (b : Bool) (m : Moment) (s t : ℕ) (x y : Answer)
      → cond b (RightAnswer K G m s t x) (x ≡ Refused StateLacks) → cond b (RightAnswer K G m s t y) (y ≡ Refused StateLacks) → x ≡ y
  asked_once true m s t x y p q = p.2 ∙ replied_once m s t p.0 q.0 p.1 q.1 ∙ sym q.2
  asked_once false m s t x y p q = p ∙ sym q

  pub gives_once : (m : Moment) (c : Call) (x y : Answer) → Gives K G m c x → Gives K G m c y → x ≡ y
  gives_once m (Name v) x y p q = p ∙ sym q
  gives_once m Build x y p q = p ∙ sym q
  gives_once m (Close e) x y p q = p ∙ sym q
  gives_once m (Reopen e) x y p q = p ∙ sym q
  gives_once m (Ask s t) x y p q = asked_once m.built m s t x y p q
  gives_once m Tally x y p q = p ∙ sym q
  gives_once m Replan x y p q = p ∙ sym q

  pub life_once : (cs : List Call) (m : Moment) (rs ss : List Answer) → Life K G m cs rs → Life K G m cs ss → rs ≡ ss
  life_once [] m [] [] p q = refl
  life_once [] m [] (y ∷ ss) p q = elim q [ ]
  life_once [] m (x ∷ rs) ss p q = elim p [ ]
  life_once (c ∷ cs) m [] ss p q = elim p [ ]
  life_once (c ∷ cs) m (x ∷ rs) [] p q = elim q [ ]
  life_once (c ∷ cs) m (x ∷ rs) (y ∷ ss) p q =
      ap₂ (λ (a : Answer) (rest : List Answer). a ∷ rest) (gives_once m c x y p.0 q.0) (life_once cs (after G m c) rs ss p.1 q.1)

pub lives_once : LivesOnce
lives_once K law G map cs rs ss = life_once K law G (lawful_is_coded G map).codes cs created rs ss
