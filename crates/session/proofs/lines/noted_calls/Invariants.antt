use Rattle.std.proofs.Common.{◌+◌, ◌≤◌, List, ◌++◌, length, Option}
use Rattle.calls.specs.declared.Call.{Call}
use Rattle.commands.specs.Lines.{lines_left}
use Rattle.commands.specs.Text.{lines_of}
use Rattle.session.specs.Steps.{AllNoted}
use Rattle.session.proofs.lines.noted_calls.Given as goal

-- the lines before are noted: what the lines that are left have, comes after them
abbrev pub invariant-loop-line : goal.invariant-loop-line
invariant-loop-line l =
    record {
      room : length l.calls.items + length (lines_left l.line-iterator) ≤ 4096;
      noted : (more : List (Option Call)) → AllNoted (lines_left l.line-iterator) more → AllNoted (lines_of l.text) (l.calls.items ++ more);
    }
