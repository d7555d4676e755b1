use Rattle.std.proofs.Common.{refl, arith}
use Rattle.std.proofs.Math.Nat.{add-sub_cancel}
use Rattle.legs.proofs.Spreads.{PositionsPut, put_none, put_more, put_goal, put_end, room_more, room_goal}
use Rattle.legs.proofs.searching.Search.put_legs.Goals as goal
use Rattle.legs.proofs.searching.Search.put_legs.Goals.{else-loop-to-test, then-loop-to-test+else-to-to-end}

pub loop-to-init : goal.loop-to-init
loop-to-init g c = record { within = omega arith; put = put_none g.K.Length.kind c.args.self.now c.args.from c.args.walked c.requires.ordered }

pub put_leg-requires-clause-fits : goal.put_leg-requires-clause-fits
put_leg-requires-clause-fits g c = room_more c.loop-to.invariant.put c.args.self.now.legs.now.count c.requires.fits c.loop-to.to (omega arith) (omega arith)

pub loop-to-preserved : goal.loop-to-preserved
loop-to-preserved g c =
    record { within = omega arith; put = rw (add-sub_cancel c.loop-to.to 1) (put_more c.loop-to.invariant.put c.loop-to.to (omega arith) c.put_leg.ensures) }

pub put_leg-requires-2-clause-fits : goal.put_leg-requires-2-clause-fits
put_leg-requires-2-clause-fits g c =
    let s = c.args.self.now in
    let k = s.legs.now.count in
    let e : PositionsPut g.K.Length.kind s c.args.from c.args.walked k c.loop-to-test.self =
    elim c.loop-to-test.branch [
      | else-loop-to-test w ↦ put_end c.loop-to.invariant.put k c.loop-to-test.self (omega arith) w.self-is
      | then-loop-to-test+else-to-to-end w ↦
          put_end (put_more c.loop-to.invariant.put c.loop-to.to (omega arith) w.put_leg.ensures) k c.loop-to-test.self (omega arith) w.self-is
    ] in
    room_goal e k c.requires.fits refl

pub returns : goal.returns
returns g c =
    let s = c.args.self.now in
    let k = s.legs.now.count in
    let e : PositionsPut g.K.Length.kind s c.args.from c.args.walked k c.loop-to-test.self =
    elim c.loop-to-test.branch [
      | else-loop-to-test w ↦ put_end c.loop-to.invariant.put k c.loop-to-test.self (omega arith) w.self-is
      | then-loop-to-test+else-to-to-end w ↦
          put_end (put_more c.loop-to.invariant.put c.loop-to.to (omega arith) w.put_leg.ensures) k c.loop-to-test.self (omega arith) w.self-is
    ] in
    put_goal e c.put_leg-2.ensures
