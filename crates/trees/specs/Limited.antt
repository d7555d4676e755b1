-- The streets that a run may take within its limits.
use Rattle.maps.specs.Graph.{Graph}
use Rattle.walks.specs.Streets.{Streets, run_streets}
use Rattle.trees.specs.Marks.{closed_in}
use Rattle.trees.specs.declared.run.Limits.{Limits}

-- the streets outside the closed ones that leave the root or a junction not in the transit list
abbrev pub streets_within : Graph → Limits → Streets
streets_within G L = run_streets G L.transit.now (closed_in L.closed.now) L.root
