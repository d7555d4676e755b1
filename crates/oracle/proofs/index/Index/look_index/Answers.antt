use Rattle.std.proofs.Common.{arith}
use Rattle.std.proofs.lemmas.Grind.{common_steps}
use Rattle.tables.specs.Tables.{transit_of}
use Rattle.oracle.proofs.Looking.{index_outside}
use Rattle.oracle.proofs.index.Index.look_index.Goals as goal

pub returns-in_err-at : goal.returns-in_err-at
returns-in_err-at g c =
    let m = c.args.self.now.map in
    grind (arith, common_steps, index_outside g.K.Length.kind (g.M.Map.graph m) (g.M.Map.lawful m) (transit_of c.args.self.now.tables) c.args.e c.args.k)

pub returns-in_err-row : goal.returns-in_err-row
returns-in_err-row g c =
    let m = c.args.self.now.map in
    grind (arith, common_steps, index_outside g.K.Length.kind (g.M.Map.graph m) (g.M.Map.lawful m) (transit_of c.args.self.now.tables) c.args.e c.args.k)
