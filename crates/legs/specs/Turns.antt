-- What a search keeps from turn to turn.
use Rattle.std.specs.Prelude.{◌≡◌, ℕ, ◌+◌, ◌≤◌, List, length, Option}
use Rattle.std.specs.List.Sorted.{IsPermutation}
use Rattle.queue.specs.Queues.{held, room, Ordered}
use Rattle.lengths.specs.Kinds.{Kind}
use Rattle.entries.specs.declared.Node.{Node}
use Rattle.entries.specs.Records.{NodeAhead}
use Rattle.legs.specs.declared.searching.Search.{Search}
use Rattle.legs.specs.Tables.{positions_of, leg_of, length_at}
use Rattle.legs.specs.Searches.{Lengths, open_legs, unreached, pairs, Searched}

-- how many list positions a search goes over
abbrev pub positions_in : Search → ℕ
positions_in s = positions_of s.legs.now

-- the legs from node i to the nodes that are not reached
abbrev pub legs_out : Search → ℕ → ℕ → Option ℕ
legs_out s i = open_legs (length_at s.reached) (leg_of s.legs.now i)

-- there is a place for each node that has no length in L
abbrev pub HasRoom : Lengths → Search → Type 0
HasRoom L s = length (held s.queue) + unreached L (positions_in s) ≤ room s.queue

-- how many turns are left at most: one for each node that waits, and for each pair of nodes that are not reached
abbrev pub turns_left : Search → ℕ
turns_left s = length (held s.queue) + pairs (unreached (length_at s.reached) (positions_in s))

-- t is s further on: over the same legs, what waits in heap order, in the same lent places
pub record GoesOn (K : Kind) (s t : Search) : Type 0 where
  pub legs : t.legs ≡ s.legs
  pub ordered : Ordered (NodeAhead K) t.queue
  pub room : room t.queue ≡ room s.queue
  pub lender : t.queue.places.ghost_name ≡ s.queue.places.ghost_name

-- t is s further on, no more nodes are reached, and the nodes hs wait
pub record Puts (K : Kind) (hs : List Node) (s t : Search) : Type 0 where
  pub goes_on : GoesOn K s t
  pub reached : t.reached ≡ s.reached
  pub held : IsPermutation hs (held t.queue)

-- a search has come so far that the lengths are known and the nodes hs wait
abbrev pub Stands : Kind → Search → List Node → Type 0
Stands K s = Searched K (leg_of s.legs.now) (positions_in s) (length_at s.reached)
