use Rattle.std.proofs.Common.{◌≡◌, ◌+◌, ◌≤◌, sym, ap, subst, ◌∙◌, arith}
use Rattle.block.specs.Layout.{cell_count, neighbour}
use Rattle.block.specs.Laws.{neighbour_within}
use Rattle.block.proofs.cells.Cells.beside.Goals as goal

pub overflow_sub-result : goal.overflow_sub-result
overflow_sub-result c =
    let bs = c.args.self.now.bytes.now in
    let n = neighbour_within bs c.args.self.now.framed.range.0 c.args.j c.requires.0 c.requires.1.0 c.args.side c.requires.1.1 in
    let is = ap (neighbour bs c.args.j) c.in-North.is in
    omega (arith, n.0, is)

pub returns-in-East-clause-within : goal.returns-in-East-clause-within
returns-in-East-clause-within c =
    let bs = c.args.self.now.bytes.now in
    let n = neighbour_within bs c.args.self.now.framed.range.0 c.args.j c.requires.0 c.requires.1.0 c.args.side c.requires.1.1 in
    let is : c.args.j + 1 ≡ neighbour bs c.args.j c.args.side = ap (neighbour bs c.args.j) (sym c.in-East.is) in
    subst (λ x. x ≤ cell_count bs) (sym is) n.1

pub returns-in-South-clause-within : goal.returns-in-South-clause-within
returns-in-South-clause-within c =
    let bs = c.args.self.now.bytes.now in
    let n = neighbour_within bs c.args.self.now.framed.range.0 c.args.j c.requires.0 c.requires.1.0 c.args.side c.requires.1.1 in
    let is : c.args.j + c.width-in-South.result ≡ neighbour bs c.args.j c.args.side = ap (λ w. c.args.j + w) c.width-in-South.ensures ∙ ap (neighbour bs c.args.j) (sym c.in-South.is) in
    subst (λ x. x ≤ cell_count bs) (sym is) n.1
