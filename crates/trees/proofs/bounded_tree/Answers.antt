use Rattle.std.proofs.Common.{ℕ, Bool, ap}
use Rattle.walks.specs.Runs.{bounded_run}
use Rattle.trees.specs.Runs.{run_on}
use Rattle.trees.proofs.bounded_tree.Goals as goal

pub returns : goal.returns
returns g c =
    let G = g.M.Map.graph c.args.map.now in
    let K = g.K.Length.kind in
    let ns = c.args.transit.now in
    let told = c.bounded_run.ensures in
    let none = c.no_marks.ensures in
    let all = ap (λ (F : ℕ → Bool). run_on K G ns F c.args.root) none in
    let from = ap (λ (F : ℕ → Bool). bounded_run K G ns F c.args.root) none in
    record { run = (cc); on_map = λ on. let it = told.on_map on in (cc) }
