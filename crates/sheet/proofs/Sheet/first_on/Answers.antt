use Rattle.std.proofs.Common.{◌≡◌, ◌≤◌, sym, ap, ◌∙◌, subst, arith}
use Rattle.maps.specs.Graph.{Lowest}
use Rattle.formats.specs.Scan.{optional}
use Rattle.sheet.specs.Layout.{junction_count, sheet_graph}
use Rattle.sheet.specs.Chains.{OnChain, first_link}
use Rattle.sheet.specs.Laws.{sheet_lawful, passed}
use Rattle.sheet.proofs.Links.{none_off, linked}
use Rattle.sheet.proofs.Sheet.first_on.Goals as goal
use Rattle.sheet.proofs.Sheet.first_on.Goals.{then-v-eq0-via-then-v-eq0, then-v-eq0-via-else-v-eq0+then-v-junction_count}

pub returns-then-v-eq0 : goal.returns-then-v-eq0
returns-then-v-eq0 c =
    let bs = c.args.self.now.bytes.now in
    let same = ap (λ b. junction_count b.now) c.records-records.ensures in
    none_off (sheet_graph bs) (sheet_lawful bs c.args.self.now.sound) c.args.chain c.args.v
    (λ lo. elim c.then-v-eq0.branch [ then-v-eq0-via-then-v-eq0 w ↦ absurd (omega arith) | then-v-eq0-via-else-v-eq0+then-v-junction_count w ↦ omega arith ])

pub returns : goal.returns
returns c =
    let bs = c.args.self.now.bytes.now in
    let few : c.args.v ≤ junction_count bs = omega (arith, ap (λ b. junction_count b.now) c.records-records.ensures) in
    let is : c.first_link.result ≡ optional (first_link bs c.args.chain c.args.v) = c.first_link.ensures ∙ ap (λ b. optional (first_link b.now c.args.chain c.args.v)) c.records-records.ensures in
    subst (Lowest (OnChain (sheet_graph bs) c.args.chain c.args.v) 0) (sym is)
    ((linked bs (passed bs c.args.self.now.sound.0).links).first c.args.chain c.args.v (omega arith) few)
