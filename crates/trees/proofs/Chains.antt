-- The streets that leave a junction, met one after another by first and next leaving.
use Rattle.std.proofs.Common.{◌≡◌, ℕ, suc, ◌-◌, ◌<◌, ◌≤◌, Bool, true, false, List, length, is_some, Some, None, Option, sym, refl, ap, ◌∙◌, subst, ⊎_elim, arith}
use native.Mathlib.Decide.{le_ind}
use Rattle.std.proofs.lemmas.Bool.{cases_lt, eq-eqb, ne_eqb}
use Rattle.std.proofs.lemmas.List.Sorted.{IsPermutation-cons, IsPermutation-trans, length_permutation}
use Rattle.std.specs.List.Sorted.{IsPermutation}
use Rattle.maps.specs.Graph.{Street, Graph, Leaves, Lowest, LawfulMap, Placed, tail_of}
use Rattle.lengths.specs.Kinds.{Kind}
use Rattle.walks.specs.Streets.{Streets, omit_if, without}
use Rattle.walks.specs.Runs.{Table}
use Rattle.entries.specs.declared.Candidate.{Candidate}
use Rattle.trees.specs.Candidates.{if_leaves, leaving, if_unsettled, unsettled_heads, with_street, with_streets}

-- what a street's slot answers
pub placed_at : (G : Graph) → LawfulMap G → (e : ℕ) (a : Street) → G.street e ≡ Some a → Placed G.junctions (Some a)
placed_at G w e a h = subst (Placed G.junctions) h (w.placed e)

-- a street that leaves some junction has a slot of 1 to m
pub leaves_within : (G : Graph) → LawfulMap G → (v e : ℕ) → Leaves G v e → (0 < e) × (e ≤ G.slots)
leaves_within G w v e l =
    let absent : G.street e ≡ None → ⊥ = λ n. let z : ◌≡◌ {A = ℕ} 0 v = sym (ap tail_of n) ∙ l.1 in let p = l.0 in omega arith in (
      ⊎_elim (λ p. p) (λ p. absurd (absent (let z : e ≡ 0 = omega arith in ap G.street z ∙ w.no_zero))) (cases_lt 0 e),
      ⊎_elim (λ p. absurd (absent (w.no_more e p))) (λ p. p) (cases_lt G.slots e),
    )

module _ (K : Kind) (l : ℕ) where
  pub with_shuffled : (e : ℕ) (o : Option Street) (xs ys : List Candidate) → IsPermutation xs ys → IsPermutation (with_street K l e o xs) (with_street K l e o ys)
  with_shuffled e None xs ys s = s
  with_shuffled e (Some a) xs ys s = IsPermutation-cons _ xs ys s

  module _ (h : Streets) (cs : List Candidate) where
    with_one_grows : (e : ℕ) (o : Option Street) (xs : List Candidate) → length xs ≤ length (with_street K l e o xs)
    with_one_grows e None xs = omega arith
    with_one_grows e (Some a) xs = omega arith

    with_grows : (a b : ℕ) → a ≤ b → length (with_streets K h l a cs) ≤ length (with_streets K h l b cs)
    with_grows a b le =
        le_ind {n = a} (λ b. length (with_streets K h l a cs) ≤ length (with_streets K h l b cs)) (omega arith)
        (λ m p ih. let g = with_one_grows (suc m) (h (suc m)) (with_streets K h l m cs) in omega arith) b le

    with_skip : (a b : ℕ) → a ≤ b → ((k : ℕ) → a < k → k ≤ b → h k ≡ None) → with_streets K h l b cs ≡ with_streets K h l a cs
    with_skip a b le =
        le_ind {n = a} (λ b. ((k : ℕ) → a < k → k ≤ b → h k ≡ None) → with_streets K h l b cs ≡ with_streets K h l a cs) (λ _. refl)
        (λ m p ih none. rw (none (suc m) (omega arith) (omega arith)) (ih (λ k lo hi. none k lo (omega arith)))) b le

    with_at : (e : ℕ) → 0 < e → with_streets K h l e cs ≡ with_street K l e (h e) (with_streets K h l (e - 1) cs)
    with_at e p = let s : e ≡ suc (e - 1) = omega arith in subst (λ x. with_streets K h l x cs ≡ with_street K l x (h x) (with_streets K h l (x - 1) cs)) (sym s) (let z : suc (e - 1) - 1 ≡ e - 1 = omega arith in rw z)

-- up to which slot all is put when r is the next street to put
abbrev pub put_up_to : ℕ → Option ℕ → ℕ
put_up_to m None = m
put_up_to m (Some e) = e - 1

-- the streets outside the closed ones F whose head is unsettled
abbrev pub to_put : Graph → (ℕ → Bool) → Table → Streets
to_put G F T = unsettled_heads T (without F G.street)

module _ (K : Kind) (G : Graph) (w : LawfulMap G) (F : ℕ → Bool) (T : Table) (v l : ℕ) (cs : List Candidate) where
  -- a street that does not leave v
  not_here : (k : ℕ) → (Leaves G v k → ⊥) → leaving v (to_put G F T) k ≡ None
  not_here k n = go (F k) (G.street k) refl
    where
      at : (b : Bool) (a : Street) → G.street k ≡ Some a → if_leaves v (omit_if b (Some a)) ≡ None
      at true a p = refl
      at false a p =
          let q = placed_at G w k a p in
          rw (ne_eqb a.0 v (λ z. n (omega arith, ap tail_of p ∙ z)))

      go : (b : Bool) (o : Option Street) → G.street k ≡ o → if_leaves v (if_unsettled T (omit_if b o)) ≡ None
      go true o p = refl
      go false None p = refl
      go false (Some a) p = at (is_some (T a.1)) a p

  -- and one that does
  here_is : (k : ℕ) → Leaves G v k → leaving v (to_put G F T) k ≡ (to_put G F T) k
  here_is k n = go (F k) (G.street k) refl
    where
      at : (b : Bool) (a : Street) → G.street k ≡ Some a → if_leaves v (omit_if b (Some a)) ≡ omit_if b (Some a)
      at true a p = refl
      at false a p = rw (eq-eqb a.0 v (sym (ap tail_of p) ∙ n.1))

      go : (b : Bool) (o : Option Street) → G.street k ≡ o → if_leaves v (if_unsettled T (omit_if b o)) ≡ if_unsettled T (omit_if b o)
      go true o p = refl
      go false None p = refl
      go false (Some a) p = at (is_some (T a.1)) a p

  pub chain_next : (a : ℕ) → a ≤ G.slots → (r : Option ℕ) → Lowest (Leaves G v) a r
      → with_streets K (leaving v (to_put G F T)) l (put_up_to G.slots r) cs ≡ with_streets K (leaving v (to_put G F T)) l a cs
  chain_next a le None h = with_skip K l (leaving v (to_put G F T)) cs a G.slots le (λ k lo hi. not_here k (h.gap k lo tt))
  chain_next a le (Some e) h =
      let p = h.above in
      with_skip K l (leaving v (to_put G F T)) cs a (e - 1) (omega arith) (λ k lo hi. not_here k (h.gap k lo (omega arith)))

  module _ (e : ℕ) (here : Leaves G v e) where
    one : with_streets K (leaving v (to_put G F T)) l e cs ≡ with_street K l e ((to_put G F T) e) (with_streets K (leaving v (to_put G F T)) l (e - 1) cs)
    one = with_at K l (leaving v (to_put G F T)) cs e (leaves_within G w v e here).0 ∙ ap (λ o. with_street K l e o (with_streets K (leaving v (to_put G F T)) l (e - 1) cs)) (here_is e here)

    -- there is room for the next
    pub chain_fits : (ts : List Candidate) → IsPermutation (with_streets K (leaving v (to_put G F T)) l (e - 1) cs) ts
        → length (with_street K l e ((to_put G F T) e) ts) ≤ length (with_streets K (leaving v (to_put G F T)) l G.slots cs)
    chain_fits ts s =
        let n = length_permutation _ _ (with_shuffled K l e ((to_put G F T) e) _ ts s) in
        let o = ap length one in
        let g = with_grows K l (leaving v (to_put G F T)) cs e G.slots (leaves_within G w v e here).1 in
        omega arith

    -- and with it the chain goes on
    pub chain_more : (r : Option ℕ) → Lowest (Leaves G v) e r → (ts us : List Candidate)
        → IsPermutation (with_streets K (leaving v (to_put G F T)) l (e - 1) cs) ts → IsPermutation (with_street K l e ((to_put G F T) e) ts) us
        → IsPermutation (with_streets K (leaving v (to_put G F T)) l (put_up_to G.slots r) cs) us
    chain_more r low ts us s t =
        let eq = chain_next e (leaves_within G w v e here).1 r low ∙ one in
        subst (λ x. IsPermutation x us) (sym eq) (IsPermutation-trans _ _ _ (with_shuffled K l e ((to_put G F T) e) _ ts s) t)
