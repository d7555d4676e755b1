use Rattle.std.proofs.Common.{◌≡◌, ◌≤◌, sym, ap, ◌∙◌, subst, arith}
use Rattle.maps.specs.Graph.{Lowest}
use Rattle.formats.specs.Scan.{optional}
use Rattle.sheet.specs.Layout.{slot_count, sheet_graph, street_at}
use Rattle.sheet.specs.Chains.{OnChain, end_of, next_link}
use Rattle.sheet.specs.Laws.{passed}
use Rattle.sheet.proofs.Links.{linked}
use Rattle.sheet.proofs.Sheet.next_on.Goals as goal

pub returns : goal.returns
returns c =
    let bs = c.args.self.now.bytes.now in
    let few : c.args.e ≤ slot_count bs = omega (arith, ap (λ b. slot_count b.now) c.records-records.ensures) in
    let is : c.next_link.result ≡ optional (next_link bs c.args.chain c.args.e) = c.next_link.ensures ∙ ap (λ b. optional (next_link b.now c.args.chain c.args.e)) c.records-records.ensures in
    subst (Lowest (OnChain (sheet_graph bs) c.args.chain (end_of c.args.chain (street_at bs c.args.e))) c.args.e) (sym is)
    ((linked bs (passed bs c.args.self.now.sound.0).links).next c.args.chain c.args.e (omega arith) few)
