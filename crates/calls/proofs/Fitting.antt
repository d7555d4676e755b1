-- Every moment of a life fits the map.
use Rattle.std.proofs.Common.{◌≡◌, ℕ, ◌<◌, Bool, true, false, cond, not, eqb, leb, List, [], ◌∷◌, ◌++◌, length, is_some, Some, None, Option, sym, refl, subst, ⊎_elim, arith}
use Rattle.std.proofs.lemmas.Bool.{cases_Bool, and_parts, or_from, or_parts, eqb-true, eqb-false, ne_eqb, leb-true, leb-false, false≢true}
use Rattle.std.proofs.ByRecursion.{All-push}
use Rattle.std.proofs.lemmas.List.{length_push}
use Rattle.maps.specs.Graph.{Graph, LawfulMap}
use Rattle.walks.specs.Streets.{member}
use Rattle.walks.specs.Trees.{OnMap}
use Rattle.calls.specs.Moments.{Moment, created, on_map, name_fault, close_fault, reopen_fault, ask_fault, unless, with_name, marked, with_mark, with_ask, as_index, as_plan, after}
use Rattle.calls.specs.Lives.{after_all}
use Rattle.calls.specs.Fitting.{Different, FitsMap}
use Rattle.calls.specs.Claims.{LivesFit}
use Rattle.calls.specs.declared.Fault.{Fault}
use Rattle.calls.specs.declared.Fault.TheVariants.{OffMap, AlreadyNamed, ListFull, SlotAbsent, AlreadyClosed}
use Rattle.calls.specs.declared.Call.{Call}
use Rattle.calls.specs.declared.Call.TheVariants.{Name, Build, Close, Reopen, Ask, Tally, Replan}

-- ---- one name more
member_push : (xs : List ℕ) (v x : ℕ) → member xs x ≡ false → (v ≡ x → ⊥) → member (xs ++ v ∷ []) x ≡ false
member_push [] v x h n = or_from (eqb v x) false (ne_eqb v x n) refl
member_push (y ∷ ys) v x h n = let p = or_parts (eqb y x) (member ys x) h in or_from (eqb y x) (member (ys ++ v ∷ []) x) p.0 (member_push ys v x p.1 n)

pub different_push : (xs : List ℕ) (v : ℕ) → Different xs → member xs v ≡ false → Different (xs ++ v ∷ [])
different_push [] v d h = (refl, tt)
different_push (x ∷ xs) v d h =
    let p = or_parts (eqb x v) (member xs v) h in
    (member_push xs v x d.0 (λ e. eqb-false x v p.0 (sym e)), different_push xs v d.1 p.1)

-- ---- no fault
-- a junction that can be named
pub record Nameable (G : Graph) (ns : List ℕ) (v : ℕ) : Type 0 where
  pub all_on_map : OnMap G v
  pub new : member ns v ≡ false
  pub room : length ns < 16

pub nameable : (G : Graph) (ns : List ℕ) (v : ℕ) → name_fault G ns v ≡ None → Nameable G ns v
nameable G ns v = go (on_map G v) (member ns v) (leb 16 (length ns)) refl refl refl
  where
    go : (a b c : Bool) → on_map G v ≡ a → member ns v ≡ b → leb 16 (length ns) ≡ c
        → cond (not a) (Some OffMap) (cond b (Some AlreadyNamed) (cond c (Some ListFull) None)) ≡ None → Nameable G ns v
    go false b c p q r h = cc
    go true true c p q r h = cc
    go true false true p q r h = cc
    go true false false p q r h =
        let o = and_parts (leb 1 v) (leb v G.junctions) p in
        record { all_on_map = (omega (arith, leb-true 1 v o.0), leb-true v G.junctions o.1); new = q; room = leb-false 16 (length ns) r }

closes_street : (x y : Bool) → cond (not x) (Some SlotAbsent) (cond y (Some AlreadyClosed) None) ≡ None → x ≡ true
closes_street false y h = cc
closes_street true y h = refl

-- ---- each call keeps the fit
marks_fit : (G : Graph) (F : ℕ → Bool) (e : ℕ) (b : Bool) → (b ≡ true → is_some (G.street e) ≡ true) → ((i : ℕ) → F i ≡ true → is_some (G.street i) ≡ true)
    → (i : ℕ) → marked F e b i ≡ true → is_some (G.street i) ≡ true
marks_fit G F e b here all i = go (eqb i e) refl
  where
    go : (c : Bool) → eqb i e ≡ c → cond c b (F i) ≡ true → is_some (G.street i) ≡ true
    go true p h = subst (λ (k : ℕ). is_some (G.street k) ≡ true) (sym (eqb-true i e p)) (here h)
    go false p h = all i h

fits_cond : (G : Graph) (b : Bool) (x y : Moment) → FitsMap G x → FitsMap G y → FitsMap G (cond b x y)
fits_cond G true x y p q = p
fits_cond G false x y p q = q

fits_unless : (G : Graph) (f : Option Fault) (x y : Moment) → FitsMap G x → (f ≡ None → FitsMap G y) → FitsMap G (unless f x y)
fits_unless G None x y p q = q refl
fits_unless G (Some f) x y p q = p

pub fits_after : (G : Graph) (m : Moment) (c : Call) → FitsMap G m → FitsMap G (after G m c)
fits_after G m (Name v) h =
    fits_cond G m.built m (unless (name_fault G m.listed v) m (with_name m v)) h
    (fits_unless G (name_fault G m.listed v) m (with_name m v) h
    (λ p.
    let f = nameable G m.listed v p in
    record {
      few = omega (arith, length_push m.listed v, f.room);
      all_on_map = All-push (OnMap G) m.listed v h.all_on_map f.all_on_map;
      different = different_push m.listed v h.different f.new;
      streets = h.streets;
      small = h.small;
    }))
fits_after G m Build h = fits_cond G m.built m (as_index m) h (record { few = h.few; all_on_map = h.all_on_map; different = h.different; streets = h.streets; small = h.small })
fits_after G m (Close e) h =
    fits_cond G m.built (unless (close_fault G m.closed e) m (with_mark m e true)) m
    (fits_unless G (close_fault G m.closed e) m (with_mark m e true) h
    (λ p. record {
      few = h.few;
      all_on_map = h.all_on_map;
      different = h.different;
      small = h.small;
      streets = marks_fit G m.closed e true (λ _. closes_street (is_some (G.street e)) (m.closed e) p) h.streets;
    })) h
fits_after G m (Reopen e) h =
    fits_cond G m.built (unless (reopen_fault G m.closed e) m (with_mark m e false)) m
    (fits_unless G (reopen_fault G m.closed e) m (with_mark m e false) h
    (λ p. record {
      few = h.few;
      all_on_map = h.all_on_map;
      different = h.different;
      small = h.small;
      streets = marks_fit G m.closed e false (λ q. cc) h.streets;
    })) h
fits_after G m (Ask s t) h =
    fits_cond G m.built (unless (ask_fault G s t) m (with_ask m)) m
    (fits_unless G (ask_fault G s t) m (with_ask m) h
    (λ p. record { few = h.few; all_on_map = h.all_on_map; different = h.different; streets = h.streets; small = omega arith })) h
fits_after G m Tally h = h
fits_after G m Replan h = fits_cond G m.built (as_plan m) m (record { few = omega arith; all_on_map = tt; different = tt; streets = h.streets; small = h.small }) h

pub fits_all : (G : Graph) (cs : List Call) (m : Moment) → FitsMap G m → FitsMap G (after_all G m cs)
fits_all G [] m h = h
fits_all G (c ∷ cs) m h = fits_all G cs (after G m c) (fits_after G m c h)

pub fits_created : (G : Graph) → FitsMap G created
fits_created G = record { few = omega arith; all_on_map = tt; different = tt; streets = λ e h. cc; small = omega arith }

pub lives_fit : LivesFit
lives_fit G cs = fits_all G cs created (fits_created G)

-- slot 0 is never closed
pub zero_open : (G : Graph) (m : Moment) → LawfulMap G → FitsMap G m → m.closed 0 ≡ false
zero_open G m map h = ⊎_elim (λ p. absurd (false≢true (rw map.no_zero at (h.streets 0 p)))) (λ p. p) (cases_Bool (m.closed 0))
