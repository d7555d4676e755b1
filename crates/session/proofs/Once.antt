-- What is printed for bytes and a text is one text.
use Rattle.std.proofs.Common.{◌≡◌, ℕ, zero, suc, ◌+◌, ◌≤◌, Bool, true, false, cond, List, [], ◌∷◌, ◌++◌, length, get_or, take, Ok, Err, Option, sym, refl, ap, ◌∙◌, subst, arith}
use Rattle.std.specs.Result.{result_ok}
use Rattle.maps.specs.Graph.{Graph, LawfulMap}
use Rattle.formats.specs.Bytes.{Bytes}
use Rattle.sheet.specs.Layout.{sheet_graph}
use Rattle.sheet.specs.Refusal.{refusal as sheet_refusal}
use Rattle.sheet.specs.Laws.{sheet_lawful}
use Rattle.block.specs.Layout.{block_graph}
use Rattle.block.specs.Refusal.{refusal as block_refusal}
use Rattle.block.specs.Laws.{block_lawful}
use Rattle.lengths.specs.Kinds.{Kind, LawfulKind}
use Rattle.lengths.specs.Laws.{KindsLawful}
use Rattle.calls.specs.Moments.{created}
use Rattle.calls.specs.Lives.{Life}
use Rattle.calls.specs.declared.Call.{Call}
use Rattle.calls.specs.declared.Answer.{Answer}
use Rattle.calls.specs.declared.Answer.TheVariants.{Done}
use Rattle.calls.proofs.Once.{lives_once}
use Rattle.lives.specs.Lines.{with_call}
use Rattle.commands.specs.Text.{lines_of}
use Rattle.commands.specs.Words.{word, fault_number, Faulty}
use Rattle.commands.specs.declared.opening.KindWord.{KindWord}
use Rattle.commands.specs.declared.opening.KindWord.TheVariants.{Paces, Gates}
use Rattle.commands.specs.declared.opening.TextFault.{TextFault}
use Rattle.commands.specs.declared.opening.TextFault.TheVariants.{TooLong, NoKind}
use Rattle.output.specs.Written.{answer_line, fault_line, refusal_line}
use Rattle.session.specs.Readings.{Reading, Readings, calls_of, written}
use Rattle.session.specs.Prints.{Answered, kind_of, PrintsText, faulty, answered, PrintsOver, unopened, opened, counted, is_block, Prints}
use Rattle.session.proofs.Same.{SameLine, same_line}

-- ---- the same lines have the same calls, and the same text for any answers
calls_on : (r : Reading) (rs : List Reading) → calls_of (r ∷ rs) ≡ with_call (result_ok r) (calls_of rs)
calls_on (Ok c) rs = refl
calls_on (Err e) rs = refl

same_calls : (ls : List (List ℕ)) (rs ss : List Reading) → Readings ls rs → Readings ls ss → calls_of rs ≡ calls_of ss
same_calls [] [] [] p q = refl
same_calls [] [] (s ∷ ss) p q = absurd q
same_calls [] (r ∷ rs) ss p q = absurd p
same_calls (l ∷ ls) [] ss p q = absurd p
same_calls (l ∷ ls) (r ∷ rs) [] p q = absurd q
same_calls (l ∷ ls) (r ∷ rs) (s ∷ ss) p q =
    calls_on r rs
    ∙ ap (λ (o : Option Call). with_call o (calls_of rs)) (same_line l r s p.0 q.0).0
    ∙ ap (with_call (result_ok s)) (same_calls ls rs ss p.1 q.1)
    ∙ sym (calls_on s ss)

written_on : (n : ℕ) (r s : Reading) (rs ss : List Reading) → SameLine r s → ((answers : List Answer) → written (n + 1) rs answers ≡ written (n + 1) ss answers)
    → (answers : List Answer) → written n (r ∷ rs) answers ≡ written n (s ∷ ss) answers
written_on n (Ok c) (Ok d) rs ss e h [] = refl
written_on n (Ok c) (Ok d) rs ss e h (a ∷ answers) = ap (λ (x : List ℕ). answer_line n a ++ x) (h answers)
written_on n (Ok c) (Err f) rs ss e h answers = absurd (let x = e.0 in let z : ◌≡◌ {A = ℕ} 0 1 = cc in omega arith)
written_on n (Err f) (Ok c) rs ss e h answers = absurd (let x = e.0 in let z : ◌≡◌ {A = ℕ} 0 1 = cc in omega arith)
written_on n (Err f) (Err k) rs ss e h answers =
    ap (λ (x : List ℕ). x ++ written (n + 1) rs answers) (e.1 n Done) ∙ ap (λ (x : List ℕ). fault_line n k ++ x) (h answers)

same_text : (n : ℕ) (ls : List (List ℕ)) (rs ss : List Reading) → Readings ls rs → Readings ls ss → (answers : List Answer) → written n rs answers ≡ written n ss answers
same_text n [] [] [] p q answers = refl
same_text n [] [] (s ∷ ss) p q answers = absurd q
same_text n [] (r ∷ rs) ss p q answers = absurd p
same_text n (l ∷ ls) [] ss p q answers = absurd p
same_text n (l ∷ ls) (r ∷ rs) [] p q answers = absurd q
same_text n (l ∷ ls) (r ∷ rs) (s ∷ ss) p q answers =
    written_on n r s rs ss (same_line l r s p.0 q.0) (same_text (n + 1) ls rs ss p.1 q.1) answers

answered_once : (K : Kind) → LawfulKind K → (G : Graph) → LawfulMap G → (ls : List (List ℕ)) (a b : List ℕ) → Answered K G ls a → Answered K G ls b → a ≡ b
answered_once K law G lawful ls a b p q =
    let life : Life K G created (calls_of q.readings) p.answers =
    subst (λ (cs : List Call). Life K G created cs p.answers) (same_calls ls p.readings q.readings p.read q.read) p.life in
    p.text
    ∙ same_text 2 ls p.readings q.readings p.read q.read p.answers
    ∙ ap (written 2 q.readings) (lives_once K law G lawful (calls_of q.readings) p.answers q.answers life q.life)
    ∙ sym q.text

-- ---- one word, or one fault
first_of : List (List ℕ) → List ℕ
first_of [] = []
first_of (l ∷ ls) = l

rest_of : List (List ℕ) → List (List ℕ)
rest_of [] = []
rest_of (l ∷ ls) = ls

one_word : (k j : KindWord) → word k ≡ word j → k ≡ j
one_word Paces Paces e = refl
one_word Gates Gates e = refl
one_word Paces Gates e = absurd (let z : ◌≡◌ {A = ℕ} 112 103 = ap (λ (l : List ℕ). get_or l 0 0) e in omega arith)
one_word Gates Paces e = absurd (let z : ◌≡◌ {A = ℕ} 103 112 = ap (λ (l : List ℕ). get_or l 0 0) e in omega arith)

one_fault : (text : List ℕ) (e f : TextFault) → Faulty text e → Faulty text f → e ≡ f
one_fault text TooLong TooLong p q = refl
one_fault text TooLong NoKind p q = absurd (omega arith)
one_fault text NoKind TooLong p q = absurd (omega arith)
one_fault text NoKind NoKind p q = refl

not_faulty : (text : List ℕ) (e : TextFault) → Faulty text e → (k : KindWord) (ls : List (List ℕ)) → length text ≤ 4096 → lines_of text ≡ word k ∷ ls → ⊥
not_faulty text TooLong h k ls size is = omega arith
not_faulty text NoKind h k ls size is = h.1 k ls is

lawful_word : KindsLawful → (k : KindWord) → LawfulKind (kind_of k)
lawful_word laws Paces = laws.0
lawful_word laws Gates = laws.1

text_once : KindsLawful → (G : Graph) → LawfulMap G → (text a b : List ℕ) → PrintsText G text a → PrintsText G text b → a ≡ b
unfolding first_of rest_of
text_once laws G lawful text _ _ (faulty e h) (faulty f i) = ap (λ (x : TextFault). refusal_line 1 (fault_number x)) (one_fault text e f h i)
text_once laws G lawful text _ _ (faulty e h) (answered k ls b size is x) = absurd (not_faulty text e h k ls size is)
text_once laws G lawful text _ _ (answered k ls a size is x) (faulty e h) = absurd (not_faulty text e h k ls size is)
text_once laws G lawful text _ _ (answered k ls a size is x) (answered j ms b size2 has y) =
    let e : word k ∷ ls ≡ word j ∷ ms = sym is ∙ has in
    let w : k ≡ j = one_word k j (ap first_of e) in
    let m : ls ≡ ms = ap rest_of e in
    answered_once (kind_of j) (lawful_word laws j) G lawful ms a b
    (subst (λ (i : KindWord). Answered (kind_of i) G ms a) w (subst (λ (l : List (List ℕ)). Answered (kind_of k) G l a) m x)) y

over_once : KindsLawful → (refusal : ℕ) (G : Graph) → (refusal ≡ 0 → LawfulMap G) → (text a b : List ℕ) → PrintsOver refusal G text a → PrintsOver refusal G text b → a ≡ b
over_once laws refusal G lawful text _ _ (unopened h) (unopened i) = refl
over_once laws refusal G lawful text _ _ (unopened h) (opened b is x) = absurd (omega arith)
over_once laws refusal G lawful text _ _ (opened a is x) (unopened h) = absurd (omega arith)
over_once laws refusal G lawful text _ _ (opened a is x) (opened b has y) = text_once laws G (lawful is) text a b x y

-- ---- the bytes that count are bytes
tail_bytes : (x : ℕ) (xs : List ℕ) → Bytes (x ∷ xs) → Bytes xs
tail_bytes x xs h k = h (suc k)

front_bytes : (n : ℕ) (map : List ℕ) → Bytes map → Bytes (take n map)
front_bytes zero map h k = omega arith
front_bytes (suc n) [] h k = omega arith
front_bytes (suc n) (x ∷ xs) h zero = h 0
front_bytes (suc n) (x ∷ xs) h (suc k) = front_bytes n xs (tail_bytes x xs h) k

pub prints_once : KindsLawful → (map text a b : List ℕ) → Bytes map → Prints map text a → Prints map text b → a ≡ b
prints_once laws map text a b h = by_layout (is_block (counted map))
  where
    here : Bytes (counted map)
    here = front_bytes 5637 map h

    as_block : List ℕ → Type 0
    as_block = PrintsOver (block_refusal (counted map)) (block_graph (counted map)) text

    as_sheet : List ℕ → Type 0
    as_sheet = PrintsOver (sheet_refusal (counted map)) (sheet_graph (counted map)) text

    by_layout : (is : Bool) → cond is (as_block a) (as_sheet a) → cond is (as_block b) (as_sheet b) → a ≡ b
    by_layout true p q = over_once laws (block_refusal (counted map)) (block_graph (counted map)) (λ e. block_lawful (counted map) (e, here)) text a b p q
    by_layout false p q = over_once laws (sheet_refusal (counted map)) (sheet_graph (counted map)) (λ e. sheet_lawful (counted map) (e, here)) text a b p q
