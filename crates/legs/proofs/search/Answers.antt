use Rattle.std.proofs.Common.{eqb, [], ◌∷◌, length, Some, ap, ◌∙◌, arith}
use Rattle.std.specs.Map.{update}
use Rattle.std.proofs.ByRecursion.{all_shuffled}
use Rattle.queue.specs.Queues.{held}
use Rattle.entries.specs.Records.{NodeAhead}
use Rattle.walks.specs.Streets.{empty_set}
use Rattle.walks.specs.Legs.{grid}
use Rattle.walks.proofs.OneAnswer.{answer_leads}
use Rattle.legs.specs.Tables.{leg_of, length_at}
use Rattle.legs.specs.Searches.{Searched}
use Rattle.legs.proofs.Spreads.{unreached_le, goes_on_same}
use Rattle.legs.proofs.Turns.{searched_first, searched_shuffled, searched_end}
use Rattle.legs.proofs.search.Goals as goal

pub reach-requires-clause-fits : goal.reach-requires-clause-fits
reach-requires-clause-fits g c =
    let few = c.args.legs.now.few in
    let e = ap length c.new.ensures.held in
    let r = c.new.ensures.room in
    let u = unreached_le (update eqb (length_at c.none.result) 0 (Some c.zero_of.result)) c.args.legs.now.count in
    omega arith

pub loop-best-init : goal.loop-best-init
loop-best-init g c =
    let s = c.reach.new.self in
    let told = c.reach.ensures in
    let held = rw told.goes_on.legs at told.held in
    record {
      goes_on = goes_on_same g.K.Length.kind s told.goes_on.ordered;
      room = told.goes_on.room ∙ c.new.ensures.room;
      searched = rw told.goes_on.legs (searched_first g.K.Length.kind g.met.K.Length.lawful c.args.legs.now c.none.ensures c.zero_of.ensures c.new.ensures.held told.lengths held);
    }

pub visit-requires-clause-searched : goal.visit-requires-clause-searched
visit-requires-clause-searched g c =
    searched_shuffled g.K.Length.kind g.met.K.Length.lawful c.loop-best.run.legs.now (c.in-Some.best ∷ held c.take.new.self) c.in-Some.ensures.cases.shuffled c.loop-best.invariant.searched

pub visit-requires-clause-best : goal.visit-requires-clause-best
visit-requires-clause-best g c =
    let rem = c.in-Some.ensures.cases in
    (all_shuffled (NodeAhead g.K.Length.kind c.in-Some.best) (held c.loop-best.run.queue) (c.in-Some.best ∷ held c.take.new.self) rem.shuffled rem.best).1

pub returns : goal.returns
returns g c =
    let t = c.args.legs.now in
    let i = c.loop-best.invariant in
    let legs = i.goes_on.legs ∙ c.reach.ensures.goes_on.legs in
    let L = length_at c.loop-best.run.reached in
    let ended : Searched g.K.Length.kind (leg_of t) t.count L [] = rw (← c.in_default.ensures.cases.none, ← legs) i.searched in
    let best = searched_end g.K.Length.kind g.met.K.Length.lawful t ended in
    record { best = best; reached = λ v. answer_leads g.K.Length.kind (grid (leg_of t)) empty_set 0 v (L v) (best v) }
