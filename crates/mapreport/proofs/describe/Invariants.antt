use Rattle.std.proofs.Common.{◌≡◌, ◌+◌, ◌-◌, ◌≤◌, ◌++◌, string_bytes}
use Rattle.mapreport.specs.Report.{head_line, street_count, street_lines}
use Rattle.mapreport.proofs.describe.Given as goal

abbrev pub invariant-loop-e : goal.invariant-loop-e
invariant-loop-e g l =
    let m = g.M.Map.graph l.map in
    (string_bytes l.text ≡ head_line l.name m.junctions m.slots (street_count m m.slots) ++ street_lines m (l.e - 1)) × (l.e ≤ l.m + 1)
