-- Equality tests of answers, by the numbers that they are written with.
use Rattle.std.proofs.Common.{◌≡◌, ℕ, Bool, true, false, cond, ◌&&◌, eqb, List, [], ◌∷◌, get_or, Some, None, Option, sym, refl, ap, ◌∙◌, ap₂}
use Rattle.std.specs.Str.{bytes_eq}
use Rattle.std.proofs.lemmas.Slice.Eq.{bytes_eq-Decides}
use Rattle.std.proofs.lemmas.Bool.{and_parts, false≢true}
use Rattle.maps.specs.Graph.{Street}
use Rattle.walks.specs.Runs.{Entry}
use Rattle.calls.specs.Faults.{number_of}
use Rattle.calls.specs.declared.Fault.{Fault}
use Rattle.calls.specs.declared.Fault.TheVariants.{OffMap, AlreadyNamed, ListFull, SlotAbsent, AlreadyClosed, NotClosed, EndOffMap, StateLacks}
use Rattle.calls.specs.declared.Answer.{Answer}
use Rattle.calls.specs.declared.Answer.TheVariants.{Done, Length, NoWay, Count, Refused}

-- x and y are equal if they are written alike, and what is written can be read back
pub read_back : {A : Type 0} (write : A → List ℕ) (read : List ℕ → A) → ((a : A) → read (write a) ≡ a) → (x y : A) → bytes_eq (write x) (write y) ≡ true → x ≡ y
read_back write read back x y h = sym (back x) ∙ ap read ((bytes_eq-Decides (write x) (write y)).0 h) ∙ back y

-- ---- lengths
abbrev pub length_text : Option ℕ → List ℕ
length_text None = []
length_text (Some l) = l ∷ []

read_length : List ℕ → Option ℕ
read_length [] = None
read_length (l ∷ xs) = Some l

length_back : (o : Option ℕ) → read_length (length_text o) ≡ o
unfolding read_length
length_back None = refl
length_back (Some l) = refl

abbrev pub same_length : Option ℕ → Option ℕ → Bool
same_length o p = bytes_eq (length_text o) (length_text p)

pub same_length_lem : (o p : Option ℕ) → same_length o p ≡ true → o ≡ p
same_length_lem o p h = read_back length_text read_length length_back o p h

-- ---- entries of a tree
abbrev pub entry_text : Option Entry → List ℕ
entry_text None = []
entry_text (Some t) = t.0 ∷ t.1 ∷ []

read_entry : List ℕ → Option Entry
read_entry [] = None
read_entry (e ∷ xs) = Some (e, get_or xs 0 0)

entry_back : (o : Option Entry) → read_entry (entry_text o) ≡ o
unfolding read_entry
entry_back None = refl
entry_back (Some t) = refl

abbrev pub same_entry : Option Entry → Option Entry → Bool
same_entry o p = bytes_eq (entry_text o) (entry_text p)

pub same_entry_lem : (o p : Option Entry) → same_entry o p ≡ true → o ≡ p
same_entry_lem o p h = read_back entry_text read_entry entry_back o p h

-- ---- streets
abbrev pub street_text : Option Street → List ℕ
street_text None = []
street_text (Some a) = a.0 ∷ a.1 ∷ a.2 ∷ []

read_street : List ℕ → Option Street
read_street [] = None
read_street (v ∷ xs) = Some (v, get_or xs 0 0, get_or xs 1 0)

street_back : (o : Option Street) → read_street (street_text o) ≡ o
unfolding read_street
street_back None = refl
street_back (Some a) = refl

abbrev pub same_street : Option Street → Option Street → Bool
same_street o p = bytes_eq (street_text o) (street_text p)

pub same_street_lem : (o p : Option Street) → same_street o p ≡ true → o ≡ p
same_street_lem o p h = read_back street_text read_street street_back o p h

-- ---- answers
abbrev pub answer_text : Answer → List ℕ
answer_text Done = 0 ∷ []
answer_text (Length l r) = 1 ∷ l ∷ r ∷ []
answer_text (NoWay r) = 2 ∷ r ∷ []
answer_text (Count k) = 3 ∷ k ∷ []
answer_text (Refused f) = 4 ∷ number_of f ∷ []

read_fault : ℕ → Fault
read_fault k =
    cond (eqb k 11) OffMap
    (cond (eqb k 12) AlreadyNamed
    (cond (eqb k 13) ListFull
    (cond (eqb k 21) SlotAbsent (cond (eqb k 22) AlreadyClosed (cond (eqb k 23) NotClosed (cond (eqb k 24) EndOffMap StateLacks))))))

read_answer : List ℕ → Answer
read_answer xs =
    let form = get_or xs 0 0 in
    let first = get_or xs 1 0 in
    cond (eqb form 0) Done
    (cond (eqb form 1) (Length first (get_or xs 2 0)) (cond (eqb form 2) (NoWay first) (cond (eqb form 3) (Count first) (Refused (read_fault first)))))

fault_back : (f : Fault) → read_fault (number_of f) ≡ f
unfolding read_fault
fault_back OffMap = refl
fault_back AlreadyNamed = refl
fault_back ListFull = refl
fault_back SlotAbsent = refl
fault_back AlreadyClosed = refl
fault_back NotClosed = refl
fault_back EndOffMap = refl
fault_back StateLacks = refl

answer_back : (a : Answer) → read_answer (answer_text a) ≡ a
unfolding read_answer
answer_back Done = refl
answer_back (Length l r) = refl
answer_back (NoWay r) = refl
answer_back (Count k) = refl
answer_back (Refused f) = ap Refused (fault_back f)

abbrev pub same_answers : List Answer → List Answer → Bool
same_answers [] [] = true
same_answers [] (b ∷ bs) = false
same_answers (a ∷ as') [] = false
same_answers (a ∷ as') (b ∷ bs) = bytes_eq (answer_text a) (answer_text b) && same_answers as' bs

pub same_answers_lem : (xs ys : List Answer) → same_answers xs ys ≡ true → xs ≡ ys
same_answers_lem [] [] h = refl
same_answers_lem [] (b ∷ bs) h = absurd (false≢true h)
same_answers_lem (a ∷ xs) [] h = absurd (false≢true h)
same_answers_lem (a ∷ xs) (b ∷ bs) h =
    let p = and_parts (bytes_eq (answer_text a) (answer_text b)) (same_answers xs bs) h in
    ap₂ (λ (x : Answer) (rest : List Answer). x ∷ rest) (read_back answer_text read_answer answer_back a b p.0) (same_answers_lem xs bs p.1)
