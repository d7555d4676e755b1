-- The reversed view of a lawful map is lawful.
use Rattle.std.specs.Prelude.{ℕ, Some, None, Option}
use Rattle.std.proofs.Common.{ap}
use Rattle.maps.specs.Graph.{Street, Graph, Placed, LawfulMap, turned, reversed}

placed_turned : (n : ℕ) (o : Option Street) → Placed n o → Placed n (turned o)
placed_turned n None p = tt
placed_turned n (Some s) p = (p.2, p.3, p.0, p.1, p.4)

pub reversed_lawful : (g : Graph) → LawfulMap g → LawfulMap (reversed g)
reversed_lawful g h = record {
  some_junction = h.some_junction;
  few_junctions = h.few_junctions;
  few_slots = h.few_slots;
  no_zero = ap turned h.no_zero;
  no_more = λ e l. ap turned (h.no_more e l);
  placed = λ e. placed_turned g.junctions (g.street e) (h.placed e);
}
