-- The test of an example: what it says, worked out.
use Rattle.std.proofs.Common.{ℕ, suc, Bool, true, cond, not, ◌&&◌, ◌||◌, eqb, ltb, List, [], ◌∷◌, length, Some, None, Option}
use Rattle.std.specs.List.{range_with_len}
use Rattle.std.specs.Str.{bytes_eq}
use Rattle.maps.specs.Graph.{Street, Graph}
use Rattle.sheet.specs.Refusal as sheet
use Rattle.block.specs.Refusal as block
use Rattle.lengths.specs.Kinds.{Kind}
use Rattle.walks.specs.Streets.{Streets, member}
use Rattle.walks.specs.Runs.{Table, best_length}
use Rattle.walks.specs.Trees.{tree, holds_street}
use Rattle.asks.specs.Held.{closed_held}
use Rattle.asks.specs.Index.{node_at, tree_at, positions}
use Rattle.asks.specs.Handed.{stored_legs, handed_legs}
use Rattle.asks.specs.Reached.{passing, is_redone}
use Rattle.calls.specs.Moments.{Moment, created, name_fault, close_fault, reopen_fault, ask_fault, after}
use Rattle.calls.specs.Gives.{said, found}
use Rattle.calls.specs.Lives.{after_all}
use Rattle.calls.specs.declared.Fault.{Fault}
use Rattle.calls.specs.declared.Fault.TheVariants.{StateLacks}
use Rattle.calls.specs.declared.Call.{Call}
use Rattle.calls.specs.declared.Call.TheVariants.{Name, Build, Close, Reopen, Ask, Tally, Replan}
use Rattle.calls.specs.declared.Answer.{Answer}
use Rattle.calls.specs.declared.Answer.TheVariants.{Done, Count, Refused}
use Rattle.solved.specs.Rows.{File, sheet_file, block_file, map_of, kind_of, calls_of, answers_of, Row, refused, says, settles, holds, kept, indexed, stored, handed, asked, lived, file_of, number_of}
use Rattle.solved.proofs.Same.{same_length, same_entry, same_street, same_answers}

-- each of a list passes
abbrev pub every : {A : Type 0} → (A → Bool) → List A → Bool
every p [] = true
every p (x ∷ xs) = p x && every p xs

-- ---- files
abbrev pub bytes_of : File → List ℕ
bytes_of (sheet_file bs) = bs
bytes_of (block_file bs) = bs

abbrev pub refusal_of : File → ℕ
refusal_of (sheet_file bs) = sheet.refusal bs
refusal_of (block_file bs) = block.refusal bs

-- the file has this refusal, and is made of bytes
abbrev pub is_judged : File → ℕ → Bool
is_judged f k = eqb (refusal_of f) k && every (λ b. ltb b 256) (bytes_of f)

-- the slots after a answer as listed
abbrev pub same_streets : Streets → ℕ → List (Option Street) → Bool
same_streets g a [] = true
same_streets g a (o ∷ os) = same_street (g (suc a)) o && same_streets g (suc a) os

abbrev pub says_map : Graph → ℕ → List (Option Street) → Bool
says_map G n os = eqb G.junctions n && eqb G.slots (length os) && same_streets G.street 0 os

-- ---- trees
-- the slots listed are held, and each slot of the map that is held is listed
abbrev pub held_just : Graph → Table → List ℕ → Bool
held_just G T es = every (holds_street G T) es && every (λ e. not (holds_street G T e) || member es e) (range_with_len 1 G.slots)

-- ---- asks and lives
-- the redone count of an ask from s
abbrev pub redone_by : Kind → Graph → Moment → ℕ → ℕ
redone_by K G m s =
    passing (is_redone K G m.listed m.closed (λ i. best_length K G m.closed s (node_at m.listed i))) (length m.listed)

abbrev pub is_none : Option Fault → Bool
is_none None = true
is_none (Some f) = not true

abbrev pub asked_so : Kind → Graph → Moment → ℕ → ℕ → Option ℕ → ℕ → Bool
asked_so K G m s t o r = m.built && is_none (ask_fault G s t) && same_length (best_length K G m.closed s t) o && eqb (redone_by K G m s) r

-- the answer to an ask, by its fault
abbrev pub ask_answer : Kind → Graph → Moment → ℕ → ℕ → Option Fault → Answer
ask_answer K G m s t (Some f) = Refused f
ask_answer K G m s t None = found (best_length K G m.closed s t) (redone_by K G m s)

-- the answer to a call
abbrev pub answer_to : Kind → Graph → Moment → Call → Answer
answer_to K G m (Name v) = cond m.built (Refused StateLacks) (said (name_fault G m.listed v))
answer_to K G m Build = cond m.built (Refused StateLacks) Done
answer_to K G m (Close e) = cond m.built (said (close_fault G m.closed e)) (Refused StateLacks)
answer_to K G m (Reopen e) = cond m.built (said (reopen_fault G m.closed e)) (Refused StateLacks)
answer_to K G m (Ask s t) = cond m.built (ask_answer K G m s t (ask_fault G s t)) (Refused StateLacks)
answer_to K G m Tally = cond m.built (Count m.tally) (Refused StateLacks)
answer_to K G m Replan = cond m.built Done (Refused StateLacks)

abbrev pub answers_to : Kind → Graph → Moment → List Call → List Answer
answers_to K G m [] = []
answers_to K G m (c ∷ cs) = answer_to K G m c ∷ answers_to K G (after G m c) cs

-- ---- rows
abbrev pub tests_map : Row → Bool
tests_map (refused f k) = true
tests_map (says f n os) = says_map (map_of f) n os
tests_map (settles K f ns u v e l) = same_entry (tree (kind_of K) (map_of f) ns u v) (Some (e, l))
tests_map (holds K f ns u es) = held_just (map_of f) (tree (kind_of K) (map_of f) ns u) es
tests_map (kept K f ns F i k) = eqb (closed_held (member F) (tree_at (kind_of K) (map_of f) ns i) (map_of f).junctions) k
tests_map (indexed K f ns e ps) = bytes_eq (positions (kind_of K) (map_of f) ns e) ps
tests_map (stored K f ns i j o) = same_length (stored_legs (kind_of K) (map_of f) ns i j) o
tests_map (handed K f ns F s t i j o) = same_length (handed_legs (kind_of K) (map_of f) ns (member F) s t i j) o
tests_map (asked K f cs s t o r) = asked_so (kind_of K) (map_of f) (after_all (map_of f) created cs) s t o r
tests_map (lived K f xs) = same_answers (answers_to (kind_of K) (map_of f) created (calls_of xs)) (answers_of xs)

abbrev pub test : Row → Bool
test r = is_judged (file_of r) (number_of r) && tests_map r
