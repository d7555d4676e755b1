-- The lines of a text are the parts between its line ends.
use Rattle.std.proofs.Common.{◌≡◌, ℕ, Bool, true, false, cond, not, eqb, List, [], ◌∷◌, ◌++◌, refl, ap, ◌∙◌, append_assoc, arith, eqb-true}
use Rattle.std.specs.List.{AllByRecursion}
use Rattle.commands.specs.Text.{onto, lines_of, differs, Endless, ended, last_line, LinesStand}

-- a byte that ends no line goes in front of the first line
within_line : (b : ℕ) (bs : List ℕ) → differs 10 b ≡ true → lines_of (b ∷ bs) ≡ onto b (lines_of bs)
within_line b bs h = go (eqb b 10) h
  where
    go : (t : Bool) → not t ≡ true → cond t ([] ∷ lines_of bs) (onto b (lines_of bs)) ≡ onto b (lines_of bs)
    go false e = refl
    go true e = let z : ◌≡◌ {A = ℕ} 0 1 = cc in absurd (omega arith)

line_first : (l bs : List ℕ) → Endless l → lines_of (l ++ (10 ∷ bs)) ≡ l ∷ lines_of bs
line_first [] bs h = refl
line_first (b ∷ l) bs h = within_line b (l ++ (10 ∷ bs)) h.0 ∙ ap (onto b) (line_first l bs h.1)

onto_last : (b : ℕ) (l : List ℕ) → onto b (last_line l) ≡ (b ∷ l) ∷ []
onto_last b [] = refl
onto_last b (c ∷ l) = refl

line_last : (l : List ℕ) → Endless l → lines_of l ≡ last_line l
line_last [] h = refl
line_last (b ∷ l) h = within_line b l h.0 ∙ ap (onto b) (line_last l h.1) ∙ onto_last b l

written : (ls : List (List ℕ)) (l : List ℕ) → AllByRecursion Endless ls → Endless l → lines_of (ended ls ++ l) ≡ ls ++ last_line l
written [] l h last = line_last l last
written (k ∷ ls) l h last = ap lines_of (append_assoc k (10 ∷ ended ls) l) ∙ line_first k (ended ls ++ l) h.0 ∙ ap (λ r. k ∷ r) (written ls l h.1 last)

-- the text is made of these ended lines and this last part
abbrev Made : List ℕ → List (List ℕ) → List ℕ → Type 0
Made text ls l = AllByRecursion Endless ls × Endless l × (text ≡ ended ls ++ l)

-- one byte more in front
more : (b : ℕ) (bs : List ℕ) (t : Bool) → eqb b 10 ≡ t → (ls : List (List ℕ)) (l : List ℕ) → Made bs ls l → (ms : List (List ℕ)) × (m : List ℕ) × Made (b ∷ bs) ms m
more b bs true e ls l h = ([] ∷ ls, l, ((tt, h.0), h.1, ap (λ c. c ∷ bs) (eqb-true b 10 e) ∙ ap (λ r. 10 ∷ r) h.2))
more b bs false e [] l h = ([], b ∷ l, (tt, (ap not e, h.1), ap (λ r. b ∷ r) h.2))
more b bs false e (k ∷ ls) l h = ((b ∷ k) ∷ ls, l, (((ap not e, h.0.0), h.0.1), h.1, ap (λ r. b ∷ r) h.2))

every : (text : List ℕ) → (ls : List (List ℕ)) × (l : List ℕ) × Made text ls l
every [] = ([], [], (tt, tt, refl))
every (b ∷ bs) = let r = every bs in more b bs (eqb b 10) refl r.0 r.1 r.2

pub lines_stand : LinesStand
lines_stand = record { written = written; every = every }
