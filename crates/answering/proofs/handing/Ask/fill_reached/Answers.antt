use Rattle.std.proofs.Common.{◌≡◌, ◌+◌, ◌<◌, ◌≤◌, true, false, ◌⊎◌, length, get_or, sym, ap, ◌∙◌, inl, inr, arith}
use Rattle.std.proofs.lemmas.Grind.{common_steps}
use Rattle.std.proofs.lemmas.Bool.Decides.{nat_tests}
use Rattle.legs.specs.Tables.{leg_of}
use Rattle.tables.specs.Tables.{transit_of}
use Rattle.answering.specs.Handing.{is_counted, run_anew}
use Rattle.answering.proofs.Rounds.{round_same, round_more}
use Rattle.answering.proofs.handing.Ask.fill_reached.Goals as goal
use Rattle.answering.proofs.handing.Ask.fill_reached.Goals.{then-is_redone+then-not-filled-i, else-is_redone, else-is_redone-via-then-is_redone+else-not-filled-i, else-is_redone-via-else-is_redone}

pub loop-i-preserved : goal.loop-i-preserved
loop-i-preserved g c =
    let a = c.args.self.now in
    let x = a.tables.now in
    let ns = transit_of x in
    let rs = x.trees in
    let run = run_anew g.K.Length.kind (g.M.Map.graph a.map.now) x in
    let r = c.args.reached.now in
    let i = c.loop-i.i in
    let qs = c.loop-i.filled in
    let inv = c.loop-i.invariant in
    let few : length ns ≤ 16 = omega arith in
    let below : i < length ns = grind (arith, common_steps) in
    let test : c.is_redone.result ≡ is_counted r rs (i + 1) = grind (arith, common_steps, nat_tests) in
    elim c.if-is_redone.branch [
      | then-is_redone+then-not-filled-i w ↦
          let row = rw (inv.1, inv.2) at w.redo_row.ensures.legs in
          let next = round_more ns few rs run r a.legs c.args.filled.now i c.loop-i.self.legs qs c.loop-i.more inv.0 (omega (arith, inv.3)) below (sym test ∙ w.if-is_redone.true) w.if-not-filled-i.true
          c.if-is_redone.self.legs (ap (λ b. leg_of b.legs) w.self-is ∙ row) in (
            rw (w.more-is, w.filled-is) next,
            ap (λ b. b.map) w.self-is ∙ w.redo_row.ensures.map ∙ inv.1,
            ap (λ b. b.tables) w.self-is ∙ w.redo_row.ensures.tables ∙ inv.2,
            omega arith,
          )
      | else-is_redone w ↦
          let no : (is_counted r rs (i + 1) ≡ false) ⊎ (get_or qs i false ≡ true) = elim w.else-is_redone.branch [
            | else-is_redone-via-then-is_redone+else-not-filled-i u ↦ inr u.if-not-filled-i.false
            | else-is_redone-via-else-is_redone u ↦ inl (sym test ∙ u.if-is_redone.false)
          ] in
          let next = round_same ns few rs run r a.legs c.args.filled.now i c.loop-i.self.legs qs c.loop-i.more inv.0 no in (
            rw (w.more-is, w.filled-is, ap (λ b. b.legs) w.self-is) next,
            ap (λ b. b.map) w.self-is ∙ inv.1,
            ap (λ b. b.tables) w.self-is ∙ inv.2,
            omega arith,
          )
    ]
