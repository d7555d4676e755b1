use Rattle.std.proofs.Common.{◌≤◌, length, ◌∙◌, arith}
use Rattle.std.proofs.lemmas.Bool.{or_right}
use Rattle.legs.specs.Tables.{leg_of}
use Rattle.tables.specs.Tables.{transit_of}
use Rattle.answering.specs.Handing.{is_counted, is_marked, run_anew}
use Rattle.answering.proofs.Rounds.{filled_fewer}
use Rattle.answering.proofs.handing.Ask.search_reached.Goals as goal

pub loop-filled-preserved : goal.loop-filled-preserved
loop-filled-preserved g c =
    let e = c.fill_reached.ensures in
    let inv = c.loop-filled.invariant in (
      rw (e.tables, e.map) (e.round.rows (leg_of c.args.self.now.legs) inv.0),
      e.map ∙ inv.1,
      e.tables ∙ inv.2,
      omega arith,
    )

pub returns-then-not-fill_reached-clause-rows : goal.returns-then-not-fill_reached-clause-rows
returns-then-not-fill_reached-clause-rows g c =
    let a = c.args.self.now in
    let x = a.tables.now in
    let ns = transit_of x in
    let few : length ns ≤ 16 = omega arith in
    let inv = c.loop-filled.invariant in
    let r = c.search-reached.result in
    let ms = c.fill_reached.new.filled in
    let e = c.fill_reached.ensures in
    let marks = rw inv.2 at e.round.marks in
    let rows = rw (inv.2, inv.1) at (e.round.rows (leg_of a.legs) inv.0) in
    filled_fewer ns few x.trees (run_anew g.K.Length.kind (g.M.Map.graph a.map.now) x) (is_counted r x.trees) (is_marked ms)
    (λ i lo hi m. marks i lo hi ∙ or_right (is_marked c.loop-filled.filled i) (is_counted r x.trees i) m) (leg_of a.legs) (leg_of c.fill_reached.new.self.legs) rows
