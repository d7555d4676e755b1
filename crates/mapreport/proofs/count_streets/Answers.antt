use Rattle.std.proofs.Common.{◌≡◌, ℕ, Bool, ◌+◌, ◌-◌, is_some, count_by, ap, ◌∙◌, arith, rules, tests}
use Rattle.std.specs.List.{range_with_len}
use Rattle.std.proofs.lemmas.Iterator.Consumers.{YieldsList-at, YieldsList-from_filter, count_from_yields_List}
use Rattle.std.proofs.lemmas.List.Sums.{length-filter}
use Rattle.maps.proofs.Spans.{yields_over}
use Rattle.mapreport.proofs.count_streets.Goals as goal

pub returns : goal.returns
returns g c =
    let m = g.M.Map.graph c.args.map.now in
    let e = c.new.ensures in
    let some : ℕ → Bool = λ k. is_some (m.street k) in
    let slots = YieldsList-at c.filter.ensures.source (yields_over c.new.result 1 m.slots e.start (e.end ∙ c.slots.ensures) e.exhausted) in
    let n : m.slots + 1 - 1 ≡ m.slots = omega arith in
    count_from_yields_List c.filter.result c.count.result c.count.ensures.ran (YieldsList-from_filter _ some slots c.filter.ensures.closure (λ x b q k. search (rules, tests)))
    ∙ length-filter some (range_with_len 1 (m.slots + 1 - 1)) ∙ ap (λ k. count_by some (range_with_len 1 k)) n
