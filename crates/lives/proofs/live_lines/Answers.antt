use Rattle.std.proofs.Common.{false, true, ap, ◌∙◌}
use Rattle.calls.specs.declared.Call.TheVariants.{Build, Replan}
use Rattle.tables.specs.Tables.{moment_of}
use Rattle.lives.proofs.Lines.{lived_none, lived_state, lived_front}
use Rattle.lives.proofs.live_lines.Goals as goal

pub loop-built-init : goal.loop-built-init
loop-built-init g c =
    record {
      same = c.new-plan.ensures.same;
      fits = rw c.new-plan.ensures.same c.new-plan.ensures.fits;
      lived = rw c.new-plan.ensures.moment (lived_none g.L.Line.meant g.K.Length.kind (g.M.Map.graph c.args.map) c.args.lines.now c.args.answers.now);
    }

pub returns-in_default-live_state : goal.returns-in_default-live_state
returns-in_default-live_state g c =
    let G = g.M.Map.graph in
    let s = c.loop-built.invariant.same in
    let p = c.live_state.ensures.same ∙ s in
    let x = c.build-index.ensures.same ∙ p in
    let built = lived_state g.L.Line.meant g.K.Length.kind (G c.args.map) c.args.lines.now c.args.answers.now _ _ _ _ _ _ _ (moment_of false c.live_state.new.state.tables) _ Build
    (ap G s) (ap G p) (c.in-Some.ensures.lived c.args.answers.now) c.loop-built.invariant.lived c.build-index.ensures.moment in
    let asked = rw x at (c.in_default-live_state.ensures.lived c.args.answers.now (rw x built)) in
    record {
      same = c.into_map.ensures ∙ c.live_state-in-Some.ensures.same ∙ x;
      life = lived_front g.L.Line.meant g.K.Length.kind (G c.args.map) c.args.lines.now c.args.answers.now _ _ asked;
      kept = asked.kept;
    }

pub returns : goal.returns
returns g c =
    let s = c.loop-built.invariant.same in
    let named = rw s at (c.in_default.ensures.lived c.args.answers.now (rw s c.loop-built.invariant.lived)) in
    record {
      same = c.into_map-2.ensures ∙ c.live_state.ensures.same ∙ s;
      life = lived_front g.L.Line.meant g.K.Length.kind (g.M.Map.graph c.args.map) c.args.lines.now c.args.answers.now _ _ named;
      kept = named.kept;
    }

pub loop-built-preserved : goal.loop-built-preserved
loop-built-preserved g c =
    let G = g.M.Map.graph in
    let s = c.loop-built.invariant.same in
    let p = c.live_state.ensures.same ∙ s in
    let x = c.build-index.ensures.same ∙ p in
    let y = c.live_state-in-Some.ensures.same ∙ x in
    let built = lived_state g.L.Line.meant g.K.Length.kind (G c.args.map) c.args.lines.now c.args.answers.now _ _ _ _ _ _ _ (moment_of false c.live_state.new.state.tables) _ Build
    (ap G s) (ap G p) (c.in-Some.ensures.lived c.args.answers.now) c.loop-built.invariant.lived c.build-index.ensures.moment in
    record {
      same = c.replan-plan.ensures.same ∙ y;
      fits = c.replan-plan.ensures.fits;
      lived = lived_state g.L.Line.meant g.K.Length.kind (G c.args.map) c.args.lines.now c.args.answers.now _ _ _ _ _ _ _ (moment_of true c.live_state-in-Some.new.state.tables) _ Replan
          (ap G x) (ap G y) (c.in-Some-live_state.ensures.lived c.args.answers.now) built c.replan-plan.ensures.moment;
    }
