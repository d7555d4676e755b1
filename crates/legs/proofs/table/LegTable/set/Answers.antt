use Rattle.std.proofs.Common.{arith}
use Rattle.legs.specs.Tables.{leg_of}
use Rattle.legs.proofs.Cells.{cell_few, leg_set}
use Rattle.legs.proofs.table.LegTable.set.Goals as goal

pub returns-clause-legs : goal.returns-clause-legs
unfolding leg_of
returns-clause-legs c =
    let t = c.args.self.now in
    let f = cell_few t.count c.args.from c.args.to t.few c.requires in
    leg_set t.count t.few c.args.from c.args.to c.requires t.cells c.cell.result c.args.length c.cell.ensures (omega arith)
