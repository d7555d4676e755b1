use Rattle.std.proofs.Common.{length, sym, refl, ap, ◌∙◌, subst}
use Rattle.maps.specs.Graph.{reversed}
use Rattle.walks.specs.Runs.{Table, bounded_run}
use Rattle.walks.specs.Walks.{BestOpen}
use Rattle.walks.proofs.Runs.{lawful_is_coded}
use Rattle.asks.specs.Redone.{Redone}
use Rattle.asks.specs.Reached.{passing}
use Rattle.legs.specs.Tables.{leg_of}
use Rattle.trees.specs.Trees.{table_of}
use Rattle.tables.specs.Tables.{transit_of, closed_of}
use Rattle.answering.specs.Handing.{EndsHanded, is_counted}
use Rattle.answering.proofs.Handed.{on_map_is, handed_agree, found_best, found_redone}
use Rattle.answering.proofs.work_out.Goals as goal

pub returns : goal.returns
returns g c =
    let K = g.K.Length.kind in
    let m = c.args.map.now in
    let G = g.M.Map.graph m in
    let x = c.args.tables.now in
    let ns = transit_of x in
    let F = closed_of x in
    let s = c.args.s in
    let t = c.args.t in
    let fits = c.requires.fits.plan.moment in
    let stored = c.requires.fits.stored in
    let asked = c.new-ask.ensures in
    let done = c.search_reached-reached in
    let r = done.result in
    let mid = leg_of c.blank_rows.new.self.legs in
    let ended = leg_of c.hand_ends.new.self.legs in
    let legs = done.new.self.legs in
    let tables-1 = c.blank_rows.ensures.tables ∙ asked.tables in
    let tables-2 = c.hand_ends.ensures.tables ∙ tables-1 in
    let tables-3 = done.ensures.tables ∙ tables-2 in
    let map-2 = c.hand_ends.ensures.map ∙ c.blank_rows.ensures.map ∙ asked.map in
    let same = c.as_slice-transit.ensures.value in
    let from = rw same at (c.bounded_run-from.ensures.on_map (on_map_is G s c.requires.start)) in
    let back = rw same at (c.bounded_run_against-back.ensures.on_map (on_map_is G t c.requires.goal)) in
    let blank = rw (asked.tables, asked.legs) at c.blank_rows.ensures.rows in
    let handed = rw tables-1 at c.hand_ends.ensures.ends in
    let ends =
    subst (λ (T : Table). EndsHanded ns T (bounded_run K (reversed G) ns F t) t mid ended) from
    (subst (λ (T : Table). EndsHanded ns (table_of c.bounded_run-from.result) T t mid ended) back handed) in
    let rows = rw (tables-2, map-2) at done.ensures.rows in
    let places = done.new.self.positions ∙ ap (λ b. length (transit_of b.now)) tables-3 in
    let agree = handed_agree K G ns fits.all_on_map fits.few F s t x.trees stored.counts r (leg_of x.legs) mid ended legs places stored.legs blank ends rows done.ensures.reached in
    let law = g.met.K.Length.lawful in
    let coded = lawful_is_coded G (g.M.Map.lawful m) in
    let best = found_best K G ns fits.all_on_map fits.few F s t x.trees stored.counts r law coded refl (leg_of legs) agree done.ensures.best in
    let redone = found_redone K G ns fits.all_on_map fits.few F s t x.trees stored.counts r law coded refl (leg_of legs) agree done.ensures.best in (
      subst (BestOpen K G.street F s t) (sym c.goal.ensures) best,
      subst (Redone K G ns F s) (sym (c.count_redone.ensures ∙ ap (λ b. passing (is_counted r b.now.trees) (length (transit_of b.now))) tables-3)) redone,
    )
