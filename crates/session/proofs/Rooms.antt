-- How many lines a text has, and how much room their output takes at most.
use Rattle.std.proofs.Common.{ℕ, ◌+◌, ◌*◌, ◌≤◌, Bool, true, false, cond, eqb, List, [], ◌∷◌, length, arith}
use Rattle.commands.specs.Text.{onto, lines_of}

-- the most room that the output of these lines takes
abbrev pub room_for : List (List ℕ) → ℕ
room_for [] = 0
room_for (l ∷ ls) = 56 + length l + room_for ls

onto_size : (b : ℕ) (ls : List (List ℕ)) → (length (onto b ls) ≤ length ls + 1) × (room_for (onto b ls) ≤ room_for ls + 57)
onto_size b [] = (omega arith, omega arith)
onto_size b (l ∷ ls) = (omega arith, omega arith)

one_more : (t : Bool) (b : ℕ) (ls : List (List ℕ)) → (length (cond t ([] ∷ ls) (onto b ls)) ≤ length ls + 1) × (room_for (cond t ([] ∷ ls) (onto b ls)) ≤ room_for ls + 57)
one_more true b ls = (omega arith, omega arith)
one_more false b ls = onto_size b ls

pub lines_size : (bs : List ℕ) → (length (lines_of bs) ≤ length bs) × (room_for (lines_of bs) ≤ 57 * length bs)
lines_size [] = (omega arith, omega arith)
lines_size (b ∷ bs) =
    let others = lines_size bs in
    let more = one_more (eqb b 10) b (lines_of bs) in
    (omega (arith, others.0, more.0), omega (arith, others.1, more.1))
