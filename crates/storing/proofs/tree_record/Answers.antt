use Rattle.storing.proofs.Storing.{closed_held-count_by}
use Rattle.storing.proofs.tree_record.Goals as goal

pub returns-clause-count : goal.returns-clause-count
returns-clause-count g c = rw (closed_held-count_by, ← c.junctions.ensures) c.closed_held-held.ensures
