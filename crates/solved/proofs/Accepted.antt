-- A file that is judged so by the test is: its map is lawful where it is accepted, and is the one that the bytes say.
use Rattle.std.proofs.Common.{◌≡◌, ℕ, zero, suc, true, eqb, ltb, List, [], ◌∷◌, subst, arith}
use Rattle.std.proofs.lemmas.Bool.{and_parts, eqb-true, ltb-true}
use Rattle.maps.specs.Graph.{LawfulMap}
use Rattle.formats.specs.Bytes.{Bytes}
use Rattle.sheet.specs.Laws.{sheet_lawful}
use Rattle.sheet.specs.Meaning as sheet
use Rattle.sheet.proofs.Judging as sheet-judging
use Rattle.sheet.proofs.Streets as sheet-streets
use Rattle.block.specs.Laws.{block_lawful}
use Rattle.block.specs.Meaning as block
use Rattle.block.proofs.Judging as block-judging
use Rattle.block.proofs.Places as block-places
use Rattle.solved.specs.Rows.{File, sheet_file, block_file, map_of, Judged, Says}
use Rattle.solved.proofs.Tested.{every, bytes_of, refusal_of, is_judged}

all_bytes : (bs : List ℕ) → every (λ b. ltb b 256) bs ≡ true → Bytes bs
all_bytes [] h k = omega arith
all_bytes (b ∷ bs) h zero = let p = and_parts (ltb b 256) (every (λ b. ltb b 256) bs) h in omega (arith, ltb-true b 256 p.0)
all_bytes (b ∷ bs) h (suc k) = let p = and_parts (ltb b 256) (every (λ b. ltb b 256) bs) h in all_bytes bs p.1 k

parts : (f : File) (k : ℕ) → is_judged f k ≡ true → (refusal_of f ≡ k) × Bytes (bytes_of f)
parts f k h =
    let p = and_parts (eqb (refusal_of f) k) (every (λ b. ltb b 256) (bytes_of f)) h in
    (eqb-true (refusal_of f) k p.0, all_bytes (bytes_of f) p.1)

pub judged_so : (f : File) (k : ℕ) → is_judged f k ≡ true → Judged f k
judged_so (sheet_file bs) k h = subst (sheet.Judged bs) (parts (sheet_file bs) k h).0 (sheet-judging.judged bs)
judged_so (block_file bs) k h = subst (block.Judged bs) (parts (block_file bs) k h).0 (block-judging.judged bs)

pub lawful_map : (f : File) → is_judged f 0 ≡ true → LawfulMap (map_of f)
lawful_map (sheet_file bs) h = sheet_lawful bs (parts (sheet_file bs) 0 h)
lawful_map (block_file bs) h = block_lawful bs (parts (block_file bs) 0 h)

pub says_own : (f : File) → is_judged f 0 ≡ true → Says f (map_of f)
says_own (sheet_file bs) h = sheet-streets.says bs
says_own (block_file bs) h = block-places.says bs (parts (block_file bs) 0 h).0
