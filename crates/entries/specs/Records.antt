-- The two entries and their orders: street candidates, and transit nodes met over the legs.
use Rattle.std.specs.Prelude.{ℕ}
use Rattle.lengths.specs.Kinds.{Kind}
use Rattle.entries.specs.declared.Candidate.{Candidate}
use Rattle.entries.specs.declared.Node.{Node}
use Rattle.entries.specs.Orders.{Keyed}

-- the candidate with a length and a slot
abbrev pub candidate : ℕ → ℕ → Candidate
candidate l e = record { length = l; slot = e }

-- the node with a length and a list position
abbrev pub node : ℕ → ℕ → Node
node l i = record { length = l; position = i }

-- a's length is no worse than b's, and where they are equal a's slot is no higher
abbrev pub CandidateAhead : Kind → Candidate → Candidate → Type 0
CandidateAhead K = Keyed K (λ c. c.length) (λ c. c.slot)

-- a's length is no worse than b's, and where they are equal a's position is no higher
abbrev pub NodeAhead : Kind → Node → Node → Type 0
NodeAhead K = Keyed K (λ n. n.length) (λ n. n.position)
