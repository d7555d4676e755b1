use Rattle.std.proofs.Common.{◌-◌, length, ap, ◌∙◌, arith}
use Rattle.std.proofs.lemmas.List.{length-take-le}
use Rattle.tables.specs.Tables.{transit_of, closed_of}
use Rattle.storing.proofs.Storing.{trees_taken, legs_stored, index_stored}
use Rattle.storing.proofs.store.Goals as goal

pub returns-clause-fits : goal.returns-clause-fits
returns-clause-fits g c =
    let K = g.K.Length.kind in
    let G = g.M.Map.graph c.args.map.now in
    let x = c.args.tables.now in
    let list = c.as_slice-transit.ensures.value in
    let trees = rw list at c.store_trees.ensures in
    let long = length-take-le (length (transit_of x)) c.store_trees.new.trees trees.within in
    let taken = trees_taken K G (transit_of x) (closed_of x) c.store_trees.new.trees (length (transit_of x)) trees in
    record {
      plan = record { moment = c.requires.moment };
      stored = record {
        trees = λ i lo hi. trees.trees (i - 1) (omega arith);
        counts = λ i lo hi. trees.counts (i - 1) (omega arith);
        places = rw list at c.stored_legs-tables.ensures.positions;
        legs = λ i j. ap (λ L. L i j) (rw list at c.stored_legs-tables.ensures.legs ∙ legs_stored K G _ (closed_of x) _ taken);
        rows = c.store_index.ensures.rows;
        index = λ e lo hi. rw (list, long) at (c.store_index.ensures.index e lo hi) ∙ index_stored K G _ (closed_of x) _ taken e;
      };
    }
