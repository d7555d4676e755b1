use Rattle.std.proofs.Common.{◌≡◌, min, length, take, ap, ◌∙◌, arith}
use Rattle.std.proofs.lemmas.List.{take_min}
use Rattle.session.proofs.counting.Goals as goal

pub returns : goal.returns
returns c =
    let map = c.args.map.now in
    let least : c.min.result ≡ min 5637 (length map) = omega (arith, c.min.ensures) in
    ap (λ n. take n map) least ∙ take_min 5637 map
