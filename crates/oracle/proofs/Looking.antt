-- What a look at the inverted index finds.
use Rattle.std.proofs.Common.{◌≡◌, ℕ, ◌<◌, ◌⊎◌, List, None, ap, ◌∙◌, ⊎_elim, arith}
use Rattle.std.proofs.lemmas.Grind.{common_steps}
use Rattle.maps.specs.Graph.{Graph, LawfulMap}
use Rattle.lengths.specs.Kinds.{Kind}
use Rattle.asks.proofs.Building.{positions_absent}
use Rattle.oracle.specs.Looks.{index_look}

-- no tree holds the street in slot 0, or in a slot past 512
pub index_outside : (K : Kind) (G : Graph) → LawfulMap G → (ns : List ℕ) (e k : ℕ) → (e ≡ 0) ⊎ (512 < e) → index_look K G ns e k ≡ None
index_outside K G law ns e k out = rw (positions_absent K G ns _ e no_street) (grind (arith, common_steps))
  where
    no_street : G.street e ≡ None
    no_street = ⊎_elim (λ z. ap G.street z ∙ law.no_zero) (λ far. let few = law.few_slots in law.no_more e (omega arith)) out
