-- What every step of a run keeps.
use Rattle.std.proofs.Common.{◌≡◌, ℕ, true, ◌⊎◌, List, [], ◌∷◌, ◌++◌, Some, None, Option, sym, refl, ap, ◌∙◌, ap₂, ⊎_elim}
use Rattle.std.proofs.lemmas.Map.{update_here, update_apart}
use Rattle.std.proofs.ByRecursion.{All-append, All-weaker}
use Rattle.std.specs.List.{AllByRecursion}
use Rattle.maps.specs.Graph.{Street}
use Rattle.lengths.specs.Kinds.{Kind, LawfulKind, Code}
use Rattle.walks.specs.Streets.{Streets}
use Rattle.walks.specs.Walks.{Walk, walk_length, street_length}
use Rattle.walks.specs.Runs.{Entry, Table, Candidate, candidate_at, settle, first_table}
use Rattle.walks.proofs.Facts.{none≢some}
use Rattle.walks.proofs.Candidates.{CandidateOf, candidate_is, candidate_made, settled_cases, was_unsettled}
use Rattle.walks.proofs.Walks.{CodeLengths, walk_append, length_append}

-- some junction is settled by slot e
abbrev pub Settles : Table → ℕ → Type 0
Settles T e = (v : ℕ) × (l : ℕ) × (T v ≡ Some (e, l))

-- a walk of the tree's streets from r to v, of length l
pub record Reached (K : Kind) (g : Streets) (r : ℕ) (T : Table) (v l : ℕ) : Type 0 where
  pub way : List ℕ
  pub leads : Walk g r way v
  pub long : walk_length K g way ≡ l
  pub tree : AllByRecursion (Settles T) way

-- what every step keeps: settled lengths are codes, and the root is settled; a settled length is no worse than every candidate's,
-- and no worse than what any street from a settled tail gives; and it is the length of a walk
pub record Invariant (K : Kind) (g : Streets) (r : ℕ) (T : Table) : Type 0 where
  pub codes : (v : ℕ) (t : Entry) → T v ≡ Some t → Code t.1
  pub root : T r ≡ Some (0, K.zero)
  pub past : (v : ℕ) (t : Entry) (e : ℕ) (o : Candidate) → T v ≡ Some t → candidate_at K g T e ≡ Some o → K.no_worse t.1 o.2 ≡ true
  pub relaxed : (e : ℕ) (a : Street) (t x : Entry) → g e ≡ Some a → T a.0 ≡ Some t → T a.1 ≡ Some x → K.no_worse x.1 (K.join t.1 a.2) ≡ true
  pub sound : (v : ℕ) (t : Entry) → T v ≡ Some t → Reached K g r T v t.1

module _ (K : Kind) (law : LawfulKind K) (g : Streets) (codes-g : CodeLengths g) (r : ℕ) where
  first_is : (v : ℕ) (t : Entry) → first_table K r v ≡ Some t → (v ≡ r) × (t ≡ (0, K.zero))
  first_is v t s = ⊎_elim (λ p. p) (λ (n : None ≡ Some t). absurd (none≢some refl n)) (settled_cases (λ _. None) r (0, K.zero) v t s)

  pub invariant_first : Invariant K g r (first_table K r)
  invariant_first = record {
    codes = λ v t s. rw (first_is v t s).1 law.zero_code;
    root = update_here (λ _. None) r (Some (0, K.zero));
    past = λ v t e o s q.
        let f = candidate_is K g (first_table K r) e o q in
        rw ((first_is v t s).1, f.is, (first_is f.street.0 f.tail f.behind).1) (law.grow K.zero f.street.2 law.zero_code (codes-g e f.street f.holds));
    relaxed = λ e a t x h s q. rw ((first_is a.1 x q).1, (first_is a.0 t s).1) (law.grow K.zero a.2 law.zero_code (codes-g e a h));
    sound = λ v t s. record { way = []; leads = sym (first_is v t s).0; long = sym (ap (λ (x : Entry). x.1) (first_is v t s).1); tree = tt };
  }

  module _ (T : Table) (k : Invariant K g r T) (e : ℕ) (p : Candidate) (q : candidate_at K g T e ≡ Some p)
      (best : (i : ℕ) (o : Candidate) → candidate_at K g T i ≡ Some o → K.no_worse p.2 o.2 ≡ true) where
    f : CandidateOf K g T e p
    f = candidate_is K g T e p q

    T' : Table
    T' = settle T (Some p)

    fresh : T p.0 ≡ None
    fresh = rw f.is f.ahead

    code_p : Code p.2
    code_p = rw f.is (law.join_code f.tail.1 f.street.2 (k.codes f.street.0 f.tail f.behind) (codes-g e f.street f.holds))

    grown : (v : ℕ) (t : Entry) → T v ≡ Some t → T' v ≡ Some t
    unfolding T'
    grown v t s = update_apart T p.0 (Some (p.1, p.2)) v (λ (n : v ≡ p.0). none≢some fresh (rw n at s)) ∙ s

    cases : (v : ℕ) (t : Entry) → T' v ≡ Some t → ((v ≡ p.0) × (t ≡ (p.1, p.2))) ⊎ (T v ≡ Some t)
    unfolding T'
    cases v t s = settled_cases T p.0 (p.1, p.2) v t s

    was : (v : ℕ) → T' v ≡ None → T v ≡ None
    unfolding T'
    was v s = was_unsettled T p.0 (p.1, p.2) v s

    grow_p : (i : ℕ) (a : Street) → g i ≡ Some a → K.no_worse p.2 (K.join p.2 a.2) ≡ true
    grow_p i a h = law.grow p.2 a.2 code_p (codes-g i a h)

    -- what was settled is no worse than what the new one leads to
    over_p : (v : ℕ) (t : Entry) → T v ≡ Some t → (i : ℕ) (a : Street) → g i ≡ Some a → K.no_worse t.1 (K.join p.2 a.2) ≡ true
    over_p v t s i a h =
        law.trans t.1 p.2 (K.join p.2 a.2) (k.codes v t s) code_p (law.join_code p.2 a.2 code_p (codes-g i a h)) (k.past v t e p s q) (grow_p i a h)

    past' : (v : ℕ) (t : Entry) (i : ℕ) (o : Candidate) → T' v ≡ Some t → candidate_at K g T' i ≡ Some o → K.no_worse t.1 o.2 ≡ true
    past' v t i o s h =
        let d = candidate_is K g T' i o h in
        ⊎_elim
        (λ b. rw (d.is, b.1)
        (⊎_elim (λ c. rw c.1 (grow_p i d.street d.holds))
        (λ c. over_p v t c i d.street d.holds) (cases v t s)))
        (λ b.
        let n : candidate_at K g T i ≡ Some o = candidate_made K g T i d.street d.tail d.holds (was d.street.1 d.ahead) b ∙ ap Some (sym d.is) in
        ⊎_elim (λ c. rw c.1 (best i o n)) (λ c. k.past v t i o c n) (cases v t s))
        (cases d.street.0 d.tail d.behind)

    relaxed' : (i : ℕ) (a : Street) (t x : Entry) → g i ≡ Some a → T' a.0 ≡ Some t → T' a.1 ≡ Some x → K.no_worse x.1 (K.join t.1 a.2) ≡ true
    relaxed' i a t x h s u =
        ⊎_elim
        (λ b. rw b.1 (⊎_elim (λ c. rw c.1 (grow_p i a h)) (λ c. over_p a.1 x c i a h) (cases a.1 x u)))
        (λ b. ⊎_elim
        (λ c. rw c.1 (best i (a.1, i, K.join t.1 a.2) (candidate_made K g T i a t h (rw c.0 fresh) b)))
        (λ c. k.relaxed i a t x h b c) (cases a.1 x u))
        (cases a.0 t s)

    still : (v l : ℕ) → Reached K g r T v l → Reached K g r T' v l
    still v l w =
        record {
          way = w.way;
          leads = w.leads;
          long = w.long;
          tree = All-weaker (Settles T) (Settles T') (λ i h. (h.0, h.1, grown h.0 (i, h.1) h.2)) w.way w.tree;
        }

    new : Reached K g r T' p.0 p.2
    unfolding T'
    new =
        let w = still f.street.0 f.tail.1 (k.sound f.street.0 f.tail f.behind) in
        record {
          way = w.way ++ e ∷ [];
          leads = walk_append g r w.way f.street.0 (e ∷ []) p.0 w.leads (f.street, f.holds, refl, ap (λ (o : Candidate). o.0) (sym f.is));
          long = length_append K g K.zero w.way (e ∷ []) ∙ ap₂ (λ (x : ℕ) (o : Option Street). K.join x (street_length K o)) w.long f.holds ∙ ap (λ (o : Candidate). o.2) (sym f.is);
          tree = All-append (Settles T') w.way (e ∷ []) w.tree ((p.0, p.2, update_here T p.0 (Some (p.1, p.2)) ∙ ap (λ (i : ℕ). Some (i, p.2)) (ap (λ (o : Candidate). o.1) f.is)), tt);
        }

    pub invariant_step : Invariant K g r (settle T (Some p))
    unfolding T'
    invariant_step = record {
      codes = λ v t s. ⊎_elim (λ b. rw b.1 code_p) (λ b. k.codes v t b) (cases v t s);
      root = grown r (0, K.zero) k.root;
      past = past';
      relaxed = relaxed';
      sound = λ v t s. ⊎_elim (λ b. rw (b.0, b.1) new) (λ b. still v t.1 (k.sound v t b)) (cases v t s);
    }
