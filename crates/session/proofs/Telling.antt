-- No line is told, one more is, and none is left.
use Rattle.std.proofs.Common.{◌≡◌, ℕ, ◌+◌, ◌≤◌, ◌⊎◌, List, [], ◌∷◌, ◌++◌, length, inl, inr, sym, refl, ap, ◌∙◌, subst, append_assoc, arith}
use Rattle.calls.specs.declared.Answer.{Answer}
use Rattle.commands.specs.Outcome.{Outcome}
use Rattle.session.specs.Readings.{Reading}
use Rattle.session.specs.Steps.{line_for, Told}

pub tell_none : (lines rest : List (List ℕ)) (all answers : List Answer) (i : ℕ) (old : List ℕ) → rest ≡ lines → answers ≡ all → i ≡ 0 → old ≡ []
    → (more : List ℕ) → Told (i + 2) rest answers more → Told 2 lines all (old ++ more)
tell_none lines rest all answers i old same given zero none more t =
    subst (λ (o : List ℕ). Told 2 lines all (o ++ more)) (sym none)
    (subst (λ (k : ℕ). Told (k + 2) lines all more) zero
    (subst (λ (ls : List (List ℕ)). Told (i + 2) ls all more) same
    (subst (λ (xs : List Answer). Told (i + 2) rest xs more) given t)))

pub tell_more : (lines rest after : List (List ℕ)) (all answers others : List Answer) (i j : ℕ) (line old new : List ℕ) (a : Answer) (r : Reading)
    → rest ≡ line ∷ after → answers ≡ a ∷ others → j ≡ i + 1 → Outcome line r → new ≡ old ++ line_for (i + 2) r a
    → ((more : List ℕ) → Told (i + 2) rest answers more → Told 2 lines all (old ++ more))
    → (more : List ℕ) → Told (j + 2) after others more → Told 2 lines all (new ++ more)
tell_more lines rest after all answers others i j line old new a r first given next is put inv more t =
    let number : j + 2 ≡ i + 2 + 1 = omega arith in
    let here = subst (λ (n : ℕ). Told n after others more) number t in
    let front : Told (i + 2) (line ∷ after) (a ∷ others) (line_for (i + 2) r a ++ more) = (r, more, is, refl, here) in
    subst (Told 2 lines all) (sym (ap (λ (l : List ℕ). l ++ more) put ∙ append_assoc old (line_for (i + 2) r a) more))
    (inv (line_for (i + 2) r a ++ more)
    (subst (λ (ls : List (List ℕ)). Told (i + 2) ls answers (line_for (i + 2) r a ++ more)) (sym first)
    (subst (λ (xs : List Answer). Told (i + 2) (line ∷ after) xs (line_for (i + 2) r a ++ more)) (sym given) front)))

-- lines with as many answers end before the answers do
pub none_left : (rest : List (List ℕ)) (answers : List Answer) → length rest ≤ length answers → (rest ≡ []) ⊎ (length answers ≡ 0) → rest ≡ []
none_left rest answers fits (inl e) = e
none_left [] answers fits (inr e) = refl
none_left (l ∷ rest) answers fits (inr e) = absurd (omega arith)
