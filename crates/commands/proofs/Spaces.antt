-- Parts of a text up to a space.
use Rattle.std.proofs.Common.{◌≡◌, ℕ, ◌+◌, Bool, true, false, cond, List, [], ◌∷◌, ◌++◌, take, drop, sym, refl, ap, ◌∙◌, subst, one-add, arith, take-append-drop}
use Rattle.commands.specs.Text.{differs, before}
use Rattle.commands.specs.Parts.{Spaceless, Stops, Parted}

taken_spaceless : (bs : List ℕ) → Spaceless (take (before 32 bs) bs)
taken_spaceless [] = tt
taken_spaceless (b ∷ bs) = go (differs 32 b) refl (taken_spaceless bs)
  where
    go : (t : Bool) → differs 32 b ≡ t → Spaceless (take (before 32 bs) bs) → Spaceless (take (cond t (1 + before 32 bs) 0) (b ∷ bs))
    go true e ih = rw (one-add (before 32 bs)) (e, ih)
    go false e ih = tt

dropped_stops : (bs : List ℕ) → Stops (drop (before 32 bs) bs)
dropped_stops [] = refl
dropped_stops (b ∷ bs) = go (differs 32 b) refl (dropped_stops bs)
  where
    go : (t : Bool) → differs 32 b ≡ t → Stops (drop (before 32 bs) bs) → Stops (drop (cond t (1 + before 32 bs) 0) (b ∷ bs))
    go true e ih = rw (one-add (before 32 bs)) ih
    go false e ih = ap (λ t. cond t (1 + before 32 bs) 0) e

-- a text that is split where its first space stands
pub fronted : (text part rest : List ℕ) (n : ℕ) → n ≡ before 32 text → part ≡ take n text → rest ≡ drop n text → Parted text part rest
fronted text part rest n is front back =
    record {
      whole = rw (front, back) (sym (take-append-drop n text));
      spaceless = rw front (subst (λ k. Spaceless (take k text)) (sym is) (taken_spaceless text));
      stops = ap (before 32) back ∙ subst (λ k. Stops (drop k text)) (sym is) (dropped_stops text);
    }

starts : (b : ℕ) (bs : List ℕ) → differs 32 b ≡ true → Stops (b ∷ bs) → ⊥
starts b bs e z =
    let one : 1 + before 32 bs ≡ 0 = ap (λ t. cond t (1 + before 32 bs) 0) (sym e) ∙ z in
    omega arith

-- a part without spaces ends where a space comes, so it ends in one place only
pub apart : (a b x y : List ℕ) → Spaceless a → Spaceless b → Stops x → Stops y → a ++ x ≡ b ++ y → (a ≡ b) × (x ≡ y)
apart [] [] x y p q zx zy e = (refl, e)
apart [] (d ∷ b) x y p q zx zy e = absurd (starts d (b ++ y) q.0 (ap (before 32) (sym e) ∙ zx))
apart (d ∷ a) [] x y p q zx zy e = absurd (starts d (a ++ x) p.0 (ap (before 32) e ∙ zy))
apart (d ∷ a) (f ∷ b) x y p q zx zy e =
    let first : d ≡ f = cc in
    let others : a ++ x ≡ b ++ y = cc in
    let both = apart a b x y p.1 q.1 zx zy others in
    (ap (λ v. v ∷ a) first ∙ ap (λ v. f ∷ v) both.0, both.1)
