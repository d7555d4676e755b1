use Rattle.std.proofs.Common.{ℕ, ◌+◌, ◌≤◌, List, ◌++◌, length}
use Rattle.std.specs.Iterator.Adapters.{enumerate_source, enumerate_count, zip_first, zip_second}
use Rattle.std.specs.Slice.Iter.{iter_rest}
use Rattle.calls.specs.declared.Answer.{Answer}
use Rattle.commands.specs.Lines.{lines_left}
use Rattle.commands.specs.Text.{lines_of}
use Rattle.output.specs.Printed.{printed}
use Rattle.session.specs.Steps.{Told}
use Rattle.session.proofs.Rooms.{room_for}
use Rattle.session.proofs.lines.print_lines.Given as goal

-- there is room for the lines that are left; what is printed for them comes after what is printed already
abbrev pub invariant-loop-place : goal.invariant-loop-place
invariant-loop-place l =
    let rest : List (List ℕ) = lines_left (zip_first (enumerate_source l.place-iterator)) in
    let answers : List Answer = iter_rest (zip_second (enumerate_source l.place-iterator)) in
    let i : ℕ = enumerate_count l.place-iterator in
    record {
      can : (goal.iterator-loop-place).can_next l.place-iterator;
      ends : (goal.iterator-loop-place).is_finite l.place-iterator;
      room : length (printed l.out) + room_for rest ≤ 233472;
      places : i + length rest ≤ 4096;
      answered : length rest ≤ length answers;
      told : (more : List ℕ) → Told (i + 2) rest answers more → Told 2 (lines_of l.text) l.answers (printed l.out ++ more);
    }
