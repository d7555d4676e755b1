-- Plan or index, and which slots are closed, follow from the calls; a refused call changes nothing.
use Rattle.std.proofs.Common.{◌≡◌, ℕ, Bool, true, false, cond, not, ◌&&◌, eqb, List, [], ◌∷◌, is_some, Some, None, Ok, Err, Option, Result, sym, refl, ap, ◌∙◌, ⊎_elim}
use mathlib.Core.Path.{fun_ext}
use Rattle.std.proofs.lemmas.Bool.{cases_Bool, eqb-true}
use Rattle.maps.specs.Graph.{Graph}
use Rattle.lengths.specs.Kinds.{Kind}
use Rattle.calls.specs.Moments.{Moment, created, name_fault, close_fault, reopen_fault, ask_fault, unless, with_name, marked, with_mark, with_ask, as_index, as_plan, after}
use Rattle.calls.specs.Gives.{said, Replied, found, answer_of, RightAnswer}
use Rattle.calls.specs.Lives.{after_all, built_after, built_from, closed_after, closed_from}
use Rattle.calls.specs.Claims.{RefusalsKeep, ClosuresFollow}
use Rattle.calls.specs.declared.Fault.{Fault}
use Rattle.calls.specs.declared.Fault.TheVariants.{SlotAbsent, AlreadyClosed, NotClosed, StateLacks}
use Rattle.calls.specs.declared.Call.{Call}
use Rattle.calls.specs.declared.Call.TheVariants.{Name, Build, Close, Reopen, Ask, Tally, Replan}
use Rattle.calls.specs.declared.Answer.TheVariants.{Refused}
use Rattle.calls.specs.declared.Reply.{Reply}

-- ---- plan or index
built_unless : (f : Option Fault) (x y : Moment) → x.built ≡ y.built → (unless f x y).built ≡ x.built
built_unless None x y e = sym e
built_unless (Some f) x y e = refl

built_cond : (b : Bool) (x y : Moment) (z : Bool) → (b ≡ true → x.built ≡ z) → (b ≡ false → y.built ≡ z) → (cond b x y).built ≡ z
built_cond true x y z p q = p refl
built_cond false x y z p q = q refl

pub built_after_lem : (G : Graph) (m : Moment) (c : Call) → (after G m c).built ≡ built_after m.built c
built_after_lem G m (Name v) =
    built_cond m.built m (unless (name_fault G m.listed v) m (with_name m v)) m.built (λ e. refl) (λ e. built_unless (name_fault G m.listed v) m (with_name m v) refl)
built_after_lem G m Build = built_cond m.built m (as_index m) true (λ e. e) (λ e. refl)
built_after_lem G m (Close e) =
    built_cond m.built (unless (close_fault G m.closed e) m (with_mark m e true)) m m.built (λ h. built_unless (close_fault G m.closed e) m (with_mark m e true) refl) (λ h. refl)
built_after_lem G m (Reopen e) =
    built_cond m.built (unless (reopen_fault G m.closed e) m (with_mark m e false)) m m.built (λ h. built_unless (reopen_fault G m.closed e) m (with_mark m e false) refl) (λ h. refl)
built_after_lem G m (Ask s t) = built_cond m.built (unless (ask_fault G s t) m (with_ask m)) m m.built (λ h. built_unless (ask_fault G s t) m (with_ask m) refl) (λ h. refl)
built_after_lem G m Tally = refl
built_after_lem G m Replan = built_cond m.built (as_plan m) m false (λ e. refl) (λ e. e)

-- ---- which slots are closed
closed_unless : (f : Option Fault) (x y : Moment) → x.closed ≡ y.closed → (unless f x y).closed ≡ x.closed
closed_unless None x y e = sym e
closed_unless (Some f) x y e = refl

closed_cond : (b : Bool) (x y : Moment) (F : ℕ → Bool) → x.closed ≡ F → y.closed ≡ F → (cond b x y).closed ≡ F
closed_cond true x y F p q = p
closed_cond false x y F p q = q

-- a mark that is there already changes nothing
marked_same : (F : ℕ → Bool) (e : ℕ) (b : Bool) → F e ≡ b → F ≡ marked F e b
marked_same F e b h = fun_ext (λ i. ⊎_elim (λ (p : eqb i e ≡ true). rw p (ap F (eqb-true i e p) ∙ h)) (λ (p : eqb i e ≡ false). rw p) (cases_Bool (eqb i e)))

close_is : (m : Moment) (e : ℕ) (b x y : Bool) → m.closed e ≡ y
    → (cond b (unless (cond (not x) (Some SlotAbsent) (cond y (Some AlreadyClosed) None)) m (with_mark m e true)) m).closed ≡ cond (b && x) (marked m.closed e true) m.closed
close_is m e false x y h = refl
close_is m e true false y h = refl
close_is m e true true true h = marked_same m.closed e true h
close_is m e true true false h = refl

reopen_is : (m : Moment) (e : ℕ) (b x y : Bool) → m.closed e ≡ y
    → (cond b (unless (cond (not x) (Some SlotAbsent) (cond y None (Some NotClosed))) m (with_mark m e false)) m).closed ≡ cond (b && x) (marked m.closed e false) m.closed
reopen_is m e false x y h = refl
reopen_is m e true false y h = refl
reopen_is m e true true true h = refl
reopen_is m e true true false h = marked_same m.closed e false h

pub closed_after_lem : (G : Graph) (m : Moment) (c : Call) → (after G m c).closed ≡ closed_after G m.built m.closed c
closed_after_lem G m (Name v) =
    closed_cond m.built m (unless (name_fault G m.listed v) m (with_name m v)) m.closed refl (closed_unless (name_fault G m.listed v) m (with_name m v) refl)
closed_after_lem G m Build = closed_cond m.built m (as_index m) m.closed refl refl
closed_after_lem G m (Close e) = close_is m e m.built (is_some (G.street e)) (m.closed e) refl
closed_after_lem G m (Reopen e) = reopen_is m e m.built (is_some (G.street e)) (m.closed e) refl
closed_after_lem G m (Ask s t) = closed_cond m.built (unless (ask_fault G s t) m (with_ask m)) m m.closed (closed_unless (ask_fault G s t) m (with_ask m) refl) refl
closed_after_lem G m Tally = refl
closed_after_lem G m Replan = closed_cond m.built (as_plan m) m m.closed refl refl

-- ---- after a list of calls
built_all : (G : Graph) (cs : List Call) (m : Moment) → (after_all G m cs).built ≡ built_from m.built cs
built_all G [] m = refl
built_all G (c ∷ cs) m = built_all G cs (after G m c) ∙ ap (λ (b : Bool). built_from b cs) (built_after_lem G m c)

closed_all : (G : Graph) (cs : List Call) (m : Moment) → (after_all G m cs).closed ≡ closed_from G m.built m.closed cs
closed_all G [] m = refl
closed_all G (c ∷ cs) m =
    closed_all G cs (after G m c)
    ∙ ap (λ (b : Bool). closed_from G b (after G m c).closed cs) (built_after_lem G m c)
    ∙ ap (λ (F : ℕ → Bool). closed_from G (built_after m.built c) F cs) (closed_after_lem G m c)

pub closures_follow : ClosuresFollow
closures_follow G cs = record { built = built_all G cs created; closed = closed_all G cs created }

-- ---- refusals
keeps_unless : (o : Option Fault) (x y : Moment) (f : Fault) → Refused f ≡ said o → unless o x y ≡ x
keeps_unless None x y f h = cc
keeps_unless (Some g) x y f h = refl

keeps_plan : (b : Bool) (o : Option Fault) (x y : Moment) (f : Fault) → Refused f ≡ cond b (Refused StateLacks) (said o) → cond b x (unless o x y) ≡ x
keeps_plan true o x y f h = refl
keeps_plan false o x y f h = keeps_unless o x y f h

keeps_index : (b : Bool) (o : Option Fault) (x y : Moment) (f : Fault) → Refused f ≡ cond b (said o) (Refused StateLacks) → cond b (unless o x y) x ≡ x
keeps_index true o x y f h = keeps_unless o x y f h
keeps_index false o x y f h = refl

not_found : (o : Option ℕ) (r : ℕ) (f : Fault) → Refused f ≡ found o r → ⊥
not_found None r f h = cc
not_found (Some l) r f h = cc

keeps_ask : (K : Kind) (G : Graph) (m : Moment) (s t : ℕ) (f : Fault) (r : Result Reply Fault) → Replied K G m s t r → Refused f ≡ answer_of r
    → unless (ask_fault G s t) m (with_ask m) ≡ m
keeps_ask K G m s t f (Ok y) p h = absurd (not_found y.length y.redone f h)
keeps_ask K G m s t f (Err g) p h = ap (λ (o : Option Fault). unless o m (with_ask m)) p

pub refusals_keep : RefusalsKeep
refusals_keep K G m (Name v) f h = keeps_plan m.built (name_fault G m.listed v) m (with_name m v) f h
refusals_keep K G m Build f h = keeps_plan m.built None m (as_index m) f h
refusals_keep K G m (Close e) f h = keeps_index m.built (close_fault G m.closed e) m (with_mark m e true) f h
refusals_keep K G m (Reopen e) f h = keeps_index m.built (reopen_fault G m.closed e) m (with_mark m e false) f h
refusals_keep K G m (Ask s t) f h = go m.built h
  where
    go : (b : Bool) → cond b (RightAnswer K G m s t (Refused f)) (Refused f ≡ Refused StateLacks) → cond b (unless (ask_fault G s t) m (with_ask m)) m ≡ m
    go true p = keeps_ask K G m s t f p.0 p.1 p.2
    go false p = refl
refusals_keep K G m Tally f h = refl
refusals_keep K G m Replan f h = keeps_index m.built None m (as_plan m) f h
