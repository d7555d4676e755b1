use Rattle.std.proofs.Common.{refl, arith}
use Rattle.legs.specs.Tables.{length_at}
use Rattle.legs.proofs.Cells.{is_none_lem, is_some}
use Rattle.legs.proofs.Turns.{searched_bound, searched_drop, searched_room, searched_less, searched_visit}
use Rattle.legs.proofs.searching.Search.visit.Goals as goal

pub length-requires : goal.length-requires
length-requires g c = searched_bound g.K.Length.kind g.met.K.Length.lawful c.args.self.now.legs.now c.requires.searched

pub reach-requires-clause-node : goal.reach-requires-clause-node
reach-requires-clause-node g c = searched_bound g.K.Length.kind g.met.K.Length.lawful c.args.self.now.legs.now c.requires.searched

pub reach-requires-clause-fits : goal.reach-requires-clause-fits
reach-requires-clause-fits g c =
    let s = c.args.self.now in
    let n = is_none_lem c.length.result (length_at s.reached c.args.best.position) c.length.ensures c.if-is_none.ensures in
    let r = searched_room g.K.Length.kind g.met.K.Length.lawful s.legs.now c.requires.searched c.requires.best n refl in
    let f = c.requires.fits in
    omega arith

pub returns-then-is_none : goal.returns-then-is_none
returns-then-is_none g c =
    let t = c.args.self.now.legs.now in
    let n = is_none_lem c.length.result (length_at c.args.self.now.reached c.args.best.position) c.length.ensures c.if-is_none.ensures in
    let told = c.reach.ensures in
    let held = rw told.goes_on.legs at told.held in
    record {
      goes_on = told.goes_on;
      searched = rw told.goes_on.legs (searched_visit g.K.Length.kind g.met.K.Length.lawful t c.requires.searched c.requires.best n told.lengths held);
      less = rw told.goes_on.legs (searched_less g.K.Length.kind g.met.K.Length.lawful t c.requires.searched c.requires.best n told.lengths held);
    }

pub returns-else-is_none-clause-searched : goal.returns-else-is_none-clause-searched
returns-else-is_none-clause-searched g c =
    let s = c.args.self.now in
    let x = is_some c.length.result (length_at s.reached c.args.best.position) c.length.ensures c.if-is_none.ensures in
    searched_drop g.K.Length.kind g.met.K.Length.lawful s.legs.now c.requires.searched x.0 x.1
