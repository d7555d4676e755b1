-- What a candidate is, and what settling one changes.
use Rattle.std.proofs.Common.{◌≡◌, ℕ, eqb, ◌⊎◌, Some, None, Option, sym, refl, ◌∙◌, inl, inr, ⊎_elim}
use Rattle.std.proofs.lemmas.Bool.{cases_eq}
use Rattle.std.proofs.lemmas.Map.{update_here, update_apart}
use Rattle.std.specs.Map.{update}
use Rattle.maps.specs.Graph.{Street}
use Rattle.lengths.specs.Kinds.{Kind}
use Rattle.walks.specs.Streets.{Streets}
use Rattle.walks.specs.Runs.{Entry, Table, Candidate, from_ends, from_street, candidate_at}
use Rattle.walks.proofs.Facts.{none≢some, same_some}

-- what a candidate of slot e is
pub record CandidateOf (K : Kind) (g : Streets) (T : Table) (e : ℕ) (o : Candidate) : Type 0 where
  pub street : Street
  pub tail : Entry
  pub holds : g e ≡ Some street
  pub ahead : T street.1 ≡ None
  pub behind : T street.0 ≡ Some tail
  pub is : o ≡ (street.1, e, K.join tail.1 street.2)

module _ (K : Kind) (g : Streets) (T : Table) (e : ℕ) where
  pub candidate_is : (o : Candidate) → candidate_at K g T e ≡ Some o → CandidateOf K g T e o
  candidate_is o = go (g e) refl
    where
      at : (a : Street) → g e ≡ Some a → (h t : Option Entry) → T a.1 ≡ h → T a.0 ≡ t → from_ends K e a h t ≡ Some o → CandidateOf K g T e o
      at a ga (Some x) t p q s = absurd (none≢some refl s)
      at a ga None None p q s = absurd (none≢some refl s)
      at a ga None (Some t) p q s = record { street = a; tail = t; holds = ga; ahead = p; behind = q; is = same_some s refl }

      go : (x : Option Street) → g e ≡ x → from_street K T e x ≡ Some o → CandidateOf K g T e o
      go None p s = absurd (none≢some refl s)
      go (Some a) p s = at a p (T a.1) (T a.0) refl refl s

  pub candidate_made : (a : Street) (t : Entry) → g e ≡ Some a → T a.1 ≡ None → T a.0 ≡ Some t → candidate_at K g T e ≡ Some (a.1, e, K.join t.1 a.2)
  candidate_made a t p q s = rw (p, q, s)

-- after an update at h, a settled junction is h or was settled
pub settled_cases : (T : Table) (h : ℕ) (b : Entry) (v : ℕ) (t : Entry) → update eqb T h (Some b) v ≡ Some t → ((v ≡ h) × (t ≡ b)) ⊎ (T v ≡ Some t)
settled_cases T h b v t s =
    ⊎_elim (λ (p : v ≡ h). inl (p, same_some (rw p at s) (update_here T h (Some b))))
    (λ n. inr (sym (update_apart T h (Some b) v n) ∙ s)) (cases_eq v h)

-- and an unsettled one was unsettled
pub was_unsettled : (T : Table) (h : ℕ) (b : Entry) (v : ℕ) → update eqb T h (Some b) v ≡ None → T v ≡ None
was_unsettled T h b v s =
    ⊎_elim (λ (p : v ≡ h). absurd (none≢some (rw p at s) (update_here T h (Some b))))
    (λ n. sym (update_apart T h (Some b) v n) ∙ s) (cases_eq v h)
