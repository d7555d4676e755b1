use Rattle.std.proofs.Common.{is_some, sym, ap, ◌∙◌, arith}
use Rattle.marking.proofs.Remarking.{row_fits, row_room, remarked_fits, remarked_moment}
use Rattle.marking.proofs.remark.Goals as goal

pub recount-requires : goal.recount-requires
recount-requires g c =
    let m = c.args.map.now in
    let K = g.K.Length.kind in
    let law = g.met.K.Length.lawful in
    let G = g.M.Map.graph m in
    let x = c.args.tables.now in
    let here = ap is_some (sym c.slot.ensures) ∙ c.if-is_none.ensures in
    let apart = rw c.from-at.ensures at c.if-tables-at.false in
    rw c.from-at.ensures
    (record {
      within = row_fits K law G (g.M.Map.lawful m) x c.requires c.args.e here;
      room = row_room K law G (g.M.Map.lawful m) x c.requires c.args.e here c.args.closed apart;
    })

pub returns-clause-fits : goal.returns-clause-fits
returns-clause-fits g c =
    let m = c.args.map.now in
    let K = g.K.Length.kind in
    let law = g.met.K.Length.lawful in
    let G = g.M.Map.graph m in
    let x = c.args.tables.now in
    let here = ap is_some (sym c.slot.ensures) ∙ c.if-is_none.ensures in
    let apart = rw c.from-at.ensures at c.if-tables-at.false in
    let counts = rw c.from-at.ensures at c.recount.ensures in
    rw c.from-at.ensures
    (remarked_fits K law G (g.M.Map.lawful m) x c.requires c.args.e here c.args.closed apart (omega arith) c.recount.new.trees counts)

pub returns-clause-moment : goal.returns-clause-moment
returns-clause-moment g c =
    let m = c.args.map.now in
    let x = c.args.tables.now in
    let here = ap is_some (sym c.slot.ensures) ∙ c.if-is_none.ensures in
    let apart = rw c.from-at.ensures at c.if-tables-at.false in
    rw c.from-at.ensures
    (remarked_moment g.K.Length.kind g.met.K.Length.lawful (g.M.Map.graph m) (g.M.Map.lawful m) x c.requires c.args.e here c.args.closed apart (omega arith) c.recount.new.trees)
