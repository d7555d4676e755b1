use Rattle.std.proofs.Common.{◌≡◌, rules, Some, sym, ap, ◌∙◌, refl, arith}
use Rattle.calls.specs.declared.Answer.TheVariants.{Done}
use Rattle.lives.proofs.Lines.{lived_call, lived_other}
use Rattle.lives.proofs.live_state.Goals as goal
use Rattle.lives.proofs.live_state.Goals.{in-Some+in-Some-answer, in_default}

pub returns-in_default-answer-clause-lived : goal.returns-in_default-answer-clause-lived
returns-in_default-answer-clause-lived g c =
    λ before l.
    let k : c.answer.new.self ≡ c.loop-i.state = c.in_default-answer.ensures.kept (search rules) in
    let e : c.in-Some.call ≡ g.S.State.ending = c.in_default-answer.ensures.ends.0 (search rules) in
    lived_call g.L.Line.meant g.S.State.kind _ c.args.lines.now before c.loop-i.answers c.loop-i.i (g.S.State.moment c.loop-i.state)
    (g.M.Map.graph (g.S.State.map_of c.loop-i.state)) _ c.index-lines-i.result g.S.State.ending Done
    (ap g.M.Map.graph c.loop-i.invariant.same) (c.loop-i.invariant.lived before l) (omega arith) (omega arith) c.index-lines-i.is (sym c.in-Some.ensures ∙ ap Some e)
    (g.met.S.State.ends_done c.loop-i.state) (rw (k, c.loop-i.invariant.same) refl)

pub loop-i-preserved : goal.loop-i-preserved
loop-i-preserved g c =
    elim c.match-call.branch [
      | in-Some+in-Some-answer w ↦
          rw (w.state-is, w.answers-is) (record {
            same = w.answer.ensures.same ∙ c.loop-i.invariant.same;
            fits = w.answer.ensures.fits;
            lived = λ before l.
                lived_call g.L.Line.meant g.S.State.kind _ c.args.lines.now before c.loop-i.answers c.loop-i.i (g.S.State.moment c.loop-i.state)
                (g.M.Map.graph (g.S.State.map_of c.loop-i.state)) _ c.index-lines-i.result w.in-Some.call w.in-Some-answer.answer
                (ap g.M.Map.graph c.loop-i.invariant.same) (c.loop-i.invariant.lived before l) (omega arith) (omega arith) c.index-lines-i.is (sym w.in-Some.ensures)
                w.in-Some-answer.ensures.answered (w.in-Some-answer.ensures.moved (search rules));
          })
      | in_default w ↦
          rw (w.state-is, w.answers-is) (record {
            same = c.loop-i.invariant.same;
            fits = c.loop-i.invariant.fits;
            lived = λ before l.
                lived_other g.L.Line.meant g.S.State.kind _ c.args.lines.now before c.loop-i.answers c.loop-i.i (g.S.State.moment c.loop-i.state)
                c.index-lines-i.result (c.loop-i.invariant.lived before l) (omega arith) (omega arith) c.index-lines-i.is (sym c.call.ensures ∙ w.in_default.is);
          })
    ]
