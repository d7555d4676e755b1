use Rattle.std.proofs.Common.{◌+◌, get_or, ap, ◌∙◌}
use Rattle.legs.specs.Tables.{positions_of, leg_of}
use Rattle.trees.specs.Runs.{run_on}
use Rattle.trees.specs.Trees.{table_of}
use Rattle.tables.specs.Tables.{transit_of, closed_of}
use Rattle.answering.specs.Handing.{run_anew}
use Rattle.answering.proofs.Handed.{row_filled}
use Rattle.answering.proofs.handing.Ask.redo_row.Goals as goal

pub returns-clause-legs : goal.returns-clause-legs
returns-clause-legs g c =
    let a = c.args.self.now in
    let x = a.tables.now in
    let K = g.K.Length.kind in
    let G = g.M.Map.graph a.map.now in
    let i = c.args.i in
    let same = c.as_slice-transit.ensures.value in
    row_filled (transit_of x) c.as_slice-transit.result.now (positions_of a.legs) (i + 1) (table_of c.bounded_run-tree.result) (run_anew K G x (get_or (transit_of x) i 0)) (leg_of a.legs) (leg_of c.fill_row.new.legs)
    c.fill_row.ensures.legs a.positions same (c.bounded_run-tree.ensures.run ∙ ap (λ ns. run_on K G ns (closed_of x) (get_or ns i 0)) same)
