-- The bounded run, as it is worked out: a table of settled junctions, and one step after another.
use Rattle.std.specs.Prelude.{ℕ, zero, suc, Bool, cond, List, [], Some, None, Option, nat_eq}
use Rattle.std.specs.Map.{update}
use Rattle.maps.specs.Graph.{Street, Graph}
use Rattle.lengths.specs.Kinds.{Kind}
use Rattle.walks.specs.Streets.{Streets, run_streets}

-- slot and length of a settled junction
abbrev pub Entry : Type 0
Entry = ℕ × ℕ

-- what each junction has, if it is settled
abbrev pub Table : Type 0
Table = ℕ → Option Entry

-- a junction's length in a table
abbrev pub length_of : Option Entry → Option ℕ
length_of None = None
length_of (Some t) = Some t.1

-- a street that a step looks at: its head, its slot, and its tail's length joined with its own
abbrev pub Candidate : Type 0
Candidate = ℕ × ℕ × ℕ

-- the candidate of street e by what its head and its tail have: the head must be unsettled, and the tail settled
abbrev pub from_ends : Kind → ℕ → Street → Option Entry → Option Entry → Option Candidate
from_ends K e a (Some x) t = None
from_ends K e a None None = None
from_ends K e a None (Some t) = Some (a.1, e, K.join t.1 a.2)

-- the candidate of what slot e answers
abbrev pub from_street : Kind → Table → ℕ → Option Street → Option Candidate
from_street K T e None = None
from_street K T e (Some a) = from_ends K e a (T a.1) (T a.0)

-- the candidate that slot e has, if any
abbrev pub candidate_at : Kind → Streets → Table → ℕ → Option Candidate
candidate_at K g T e = from_street K T e (g e)

-- the better of two candidates, the first on a tie
abbrev pub better : Kind → Option Candidate → Option Candidate → Option Candidate
better K None o = o
better K (Some b) None = Some b
better K (Some b) (Some o) = cond (K.no_worse b.2 o.2) (Some b) (Some o)

-- the best candidate of slots 1 to k, ties to the lowest slot
abbrev pub best_up_to : Kind → (ℕ → Option Candidate) → ℕ → Option Candidate
best_up_to K f zero = None
best_up_to K f (suc k) = better K (best_up_to K f k) (f (suc k))

-- the head of a candidate is settled with its slot and length
abbrev pub settle : Table → Option Candidate → Table
settle T None = T
settle T (Some p) = update nat_eq T p.0 (Some (p.1, p.2))

-- the root alone is settled, with slot 0 and length zero
abbrev pub first_table : Kind → ℕ → Table
first_table K r = update nat_eq (λ v. None) r (Some (0, K.zero))

-- one step over slots 1 to m; where no candidate is left it changes nothing
abbrev pub next_table : Kind → Streets → ℕ → Table → Table
next_table K g m T = settle T (best_up_to K (candidate_at K g T) m)

-- the table after k steps from the root r
abbrev pub table_after : Kind → Streets → ℕ → ℕ → ℕ → Table
table_after K g m r zero = first_table K r
table_after K g m r (suc k) = next_table K g m (table_after K g m r k)

-- the bounded run from r without the streets of F, with a transit list: as many steps as the map has junctions
abbrev pub bounded_run : Kind → Graph → List ℕ → (ℕ → Bool) → ℕ → Table
bounded_run K G ns F r = table_after K (run_streets G ns F r) G.slots r G.junctions

-- the best open length, as the run with no transit list gives it
abbrev pub best_length : Kind → Graph → (ℕ → Bool) → ℕ → ℕ → Option ℕ
best_length K G F s t = length_of (bounded_run K G [] F s t)
