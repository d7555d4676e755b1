-- A life over lines that is lived line by line: the calls among the first lines are answered, and lead to the moment now.
use Rattle.std.proofs.Common.{◌≡◌, ℕ, zero, suc, ◌+◌, ◌<◌, ◌≤◌, min, ◌≢◌, List, [], ◌∷◌, ◌++◌, length, get_or, take, drop, set, Some, None, Option, sym, refl, ap, ◌∙◌, subst, append-nil, arith, length-take, length-take-le}
use Rattle.std.specs.List.{slice_get}
use Rattle.std.proofs.lemmas.List.{take_more, take_more_set, length-set}
use Rattle.maps.specs.Graph.{Graph}
use Rattle.lengths.specs.Kinds.{Kind}
use Rattle.calls.specs.Moments.{Moment, created, after}
use Rattle.calls.specs.Gives.{Gives}
use Rattle.calls.specs.Lives.{Life, after_all, front}
use Rattle.calls.specs.declared.Call.{Call}
use Rattle.calls.specs.declared.Answer.{Answer}
use Rattle.calls.specs.declared.Answer.TheVariants.{Done}
use Rattle.calls.proofs.Lived.{after_push, life_push}
use Rattle.lives.specs.Lines.{common_front, with_call, calls_among, with_answer, answers_among, call_at, OthersKept, LivedLines}

-- ---- one line more
with_call_append : (o : Option Call) (cs ds : List Call) → with_call o (cs ++ ds) ≡ with_call o cs ++ ds
with_call_append None cs ds = refl
with_call_append (Some c) cs ds = refl

with_answer_append : (o : Option Call) (a : Answer) (rs ss : List Answer) → with_answer o a (rs ++ ss) ≡ with_answer o a rs ++ ss
with_answer_append None a rs ss = refl
with_answer_append (Some c) a rs ss = refl

pub calls_push : {L : Type 0} (f : L → Option Call) (xs : List L) (x : L) → calls_among f (xs ++ x ∷ []) ≡ calls_among f xs ++ with_call (f x) []
calls_push f [] x = refl
calls_push f (y ∷ ys) x = ap (with_call (f y)) (calls_push f ys x) ∙ with_call_append (f y) (calls_among f ys) (with_call (f x) [])

pub answers_push : {L : Type 0} (f : L → Option Call) (xs : List L) (rs : List Answer) (x : L) (a : Answer) → length xs ≡ length rs
    → answers_among f (xs ++ x ∷ []) (rs ++ a ∷ []) ≡ answers_among f xs rs ++ with_answer (f x) a []
answers_push f [] [] x a e = refl
answers_push f [] (r ∷ rs) x a e = absurd (omega arith)
answers_push f (y ∷ ys) [] x a e = absurd (omega arith)
answers_push f (y ∷ ys) (r ∷ rs) x a e =
    ap (with_answer (f y) r) (answers_push f ys rs x a (omega arith)) ∙ with_answer_append (f y) r (answers_among f ys rs) (with_answer (f x) a [])

-- ---- places
nth_set_other : {A : Type 0} (xs : List A) (i j : ℕ) (a : A) → j ≢ i → slice_get (set xs i a) j ≡ slice_get xs j
nth_set_other [] i j a h = refl
nth_set_other (x ∷ xs) zero zero a h = absurd (h refl)
nth_set_other (x ∷ xs) zero (suc j) a h = refl
nth_set_other (x ∷ xs) (suc i) zero a h = refl
nth_set_other (x ∷ xs) (suc i) (suc j) a h = nth_set_other xs i j a (λ e. h (ap suc e))

call_read : {L : Type 0} (f : L → Option Call) (xs : List L) (i : ℕ) (d : L) → i < length xs → call_at f xs i ≡ f (get_or xs i d)
call_read f [] i d h = absurd (omega arith)
call_read f (x ∷ xs) zero d h = refl
call_read f (x ∷ xs) (suc i) d h = call_read f xs i d (omega arith)

pub call_here : {L : Type 0} (f : L → Option Call) (xs : List L) (i : ℕ) (x : L) (c : Call) → i < length xs → x ≡ get_or xs i x → f x ≡ Some c → call_at f xs i ≡ Some c
call_here f xs i x c h e p = call_read f xs i x h ∙ ap f (sym e) ∙ p

-- a write to the place of a call
pub kept_set : {L : Type 0} (f : L → Option Call) (lines : List L) (out : List Answer) (i : ℕ) (c : Call) (a : Answer) → call_at f lines i ≡ Some c → OthersKept f lines out (set out i a)
kept_set f lines out i c a e =
    λ j none. nth_set_other out i j a (λ same. let u : call_at f lines i ≡ None = subst (λ (k : ℕ). call_at f lines k ≡ None) same none in cc)

pub call_past : {L : Type 0} (f : L → Option Call) (xs : List L) (i : ℕ) → length xs ≤ i → call_at f xs i ≡ None
call_past f [] i h = refl
call_past f (x ∷ xs) zero h = absurd (omega arith)
call_past f (x ∷ xs) (suc i) h = call_past f xs i (omega arith)

-- lists that are equal place by place from n on
pub drop_same : {A : Type 0} (xs ys : List A) (n : ℕ) → length xs ≡ length ys → ((j : ℕ) → n ≤ j → slice_get xs j ≡ slice_get ys j) → drop n xs ≡ drop n ys
drop_same [] [] n e h = refl
drop_same [] (y ∷ ys) n e h = absurd (omega arith)
drop_same (x ∷ xs) [] n e h = absurd (omega arith)
drop_same (x ∷ xs) (y ∷ ys) zero e h =
    let p = h 0 (omega arith) in
    let q : xs ≡ ys = drop_same xs ys zero (omega arith) (λ j l. h (suc j) (omega arith)) in
    cc
drop_same (x ∷ xs) (y ∷ ys) (suc n) e h = drop_same xs ys n (omega arith) (λ j l. h (suc j) (omega arith))

-- ---- the first i lines
pub lived_none : {L : Type 0} (f : L → Option Call) (K : Kind) (G : Graph) (lines : List L) (out : List Answer) → LivedLines f K G lines out out 0 created
lived_none f K G lines out = record { within = omega arith; room = omega arith; places = refl; so_far = tt; at = refl; kept = λ j h. refl }

module _ {L : Type 0} (f : L → Option Call) (K : Kind) (G : Graph) (lines : List L) (before out : List Answer) (i : ℕ) (m : Moment) where
  -- line i stands after the lines before it
  line_next : (x : L) → i < length lines → x ≡ get_or lines i x → take (i + 1) lines ≡ take i lines ++ x ∷ []
  line_next x h e = take_more lines i x h ∙ ap (λ (y : L). take i lines ++ y ∷ []) (sym e)

  -- line i is the call c, which answers a in its place and leads to n; the map may be another one that means the same
  pub lived_call : (H : Graph) (n : Moment) (x : L) (c : Call) (a : Answer) → H ≡ G → LivedLines f K G lines before out i m → i < length lines → i < length out
      → x ≡ get_or lines i x → f x ≡ Some c → Gives K H m c a → n ≡ after H m c → LivedLines f K G lines before (set out i a) (i + 1) n
  lived_call H n x c a z l hl ho e p h q =
      let len = length-set out i a in
      record {
        within = omega arith;
        room = omega arith;
        places = len ∙ l.places;
        so_far = subst (λ (y : List Call). Life K G created y (answers_among f (take (i + 1) lines) (take (i + 1) (set out i a)))) (sym calls_are)
            (subst (Life K G created (calls_among f (take i lines) ++ c ∷ [])) (sym answers_are)
            (life_push K G created (calls_among f (take i lines)) (answers_among f (take i lines) (take i out)) c a l.so_far (subst (λ (y : Moment). Gives K G y c a) l.at (rw z at h))));
        at = q ∙ ap (λ (y : Graph). after y m c) z ∙ ap (λ (y : Moment). after G y c) l.at ∙ sym (after_push G created (calls_among f (take i lines)) c) ∙ ap (after_all G created) (sym calls_are);
        kept = λ j none. kept_set f lines out i c a (call_here f lines i x c hl e p) j none ∙ l.kept j none;
      }
    where
      calls_are : calls_among f (take (i + 1) lines) ≡ calls_among f (take i lines) ++ c ∷ []
      calls_are =
          ap (calls_among f) (line_next x hl e) ∙ calls_push f (take i lines) x ∙ ap (λ (o : Option Call). calls_among f (take i lines) ++ with_call o []) p

      answers_are : answers_among f (take (i + 1) lines) (take (i + 1) (set out i a)) ≡ answers_among f (take i lines) (take i out) ++ a ∷ []
      answers_are =
          ap (λ (y : List L). answers_among f y (take (i + 1) (set out i a))) (line_next x hl e)
          ∙ ap (answers_among f (take i lines ++ x ∷ [])) (take_more_set out i a ho)
          ∙ answers_push f (take i lines) (take i out) x a (length-take-le i lines l.within ∙ sym (length-take-le i out l.room))
          ∙ ap (λ (o : Option Call). answers_among f (take i lines) (take i out) ++ with_answer o a []) p

  -- line i is no call
  pub lived_other : (x : L) → LivedLines f K G lines before out i m → i < length lines → i < length out → x ≡ get_or lines i x → f x ≡ None
      → LivedLines f K G lines before out (i + 1) m
  lived_other x l hl ho e p =
      record {
        within = omega arith;
        room = omega arith;
        places = l.places;
        so_far = subst (λ (y : List Call). Life K G created y (answers_among f (take (i + 1) lines) (take (i + 1) out))) (sym calls_are)
            (subst (Life K G created (calls_among f (take i lines))) (sym answers_are) l.so_far);
        at = l.at ∙ ap (after_all G created) (sym calls_are);
        kept = l.kept;
      }
    where
      calls_are : calls_among f (take (i + 1) lines) ≡ calls_among f (take i lines)
      calls_are =
          ap (calls_among f) (line_next x hl e)
          ∙ calls_push f (take i lines) x
          ∙ ap (λ (o : Option Call). calls_among f (take i lines) ++ with_call o []) p
          ∙ append-nil (calls_among f (take i lines))

      answers_are : answers_among f (take (i + 1) lines) (take (i + 1) out) ≡ answers_among f (take i lines) (take i out)
      answers_are =
          ap (λ (y : List L). answers_among f y (take (i + 1) out)) (line_next x hl e)
          ∙ ap (answers_among f (take i lines ++ x ∷ [])) (take_more out i Done ho)
          ∙ answers_push f (take i lines) (take i out) x (get_or out i Done) (length-take-le i lines l.within ∙ sym (length-take-le i out l.room))
          ∙ ap (λ (o : Option Call). answers_among f (take i lines) (take i out) ++ with_answer o (get_or out i Done) []) p
          ∙ append-nil (answers_among f (take i lines) (take i out))

module _ {L : Type 0} (f : L → Option Call) (K : Kind) (G : Graph) (lines : List L) (before : List Answer) where
  -- what one state has lived and the call that ends it, which leads to n; each state is over a map that means the same
  pub lived_state : (H N : Graph) (out now : List Answer) (i j : ℕ) (m at n : Moment) (c : Call) → H ≡ G → N ≡ G
      → (LivedLines f K H lines before out i m → LivedLines f K H lines before now j (after H at c))
      → LivedLines f K G lines before out i m → n ≡ after N at c → LivedLines f K G lines before now j n
  lived_state H N out now i j m at n c h k on l q =
      let t : LivedLines f K G lines before now j (after G at c) = rw h at (on (rw h l)) in
      subst (LivedLines f K G lines before now j) (ap (λ (y : Graph). after y at c) (sym k) ∙ sym q) t

  -- at the end of the shorter list the common front is lived
  pub lived_front : (out : List Answer) (m : Moment) → LivedLines f K G lines before out (min (length lines) (length out)) m
      → Life K G created (calls_among f (common_front lines before lines)) (answers_among f (common_front lines before lines) (common_front lines before out))
  lived_front out m l = rw l.places at l.so_far

-- ---- lines that are all calls
pub all_calls : (cs : List Call) → calls_among Some cs ≡ cs
all_calls [] = refl
all_calls (c ∷ cs) = ap (λ (x : List Call). c ∷ x) (all_calls cs)

pub all_answers : (cs : List Call) (rs : List Answer) → length rs ≤ length cs → answers_among Some cs rs ≡ rs
all_answers [] [] h = refl
all_answers [] (a ∷ rs) h = absurd (omega arith)
all_answers (c ∷ cs) [] h = refl
all_answers (c ∷ cs) (a ∷ rs) h = ap (λ (x : List Answer). a ∷ x) (all_answers cs rs (omega arith))

-- so their life is one of the whole common front
pub all_lived : (K : Kind) (G : Graph) (cs : List Call) (before out : List Answer)
    → Life K G created (calls_among Some (common_front cs before cs)) (answers_among Some (common_front cs before cs) (common_front cs before out))
    → Life K G created (front cs before cs) (front cs before out)
all_lived K G cs before out l =
    let k = min (length cs) (length before) in
    subst (λ (x : List Call). Life K G created x (take k out)) (all_calls (take k cs))
    (subst (Life K G created (calls_among Some (take k cs))) (all_answers (take k cs) (take k out) (simp length-take (omega arith))) l)
