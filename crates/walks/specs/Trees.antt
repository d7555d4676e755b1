-- The tree of a transit node, the streets that it holds, and when closed streets affect it.
use Rattle.std.specs.Prelude.{◌≡◌, ℕ, zero, suc, ◌<◌, ◌≤◌, Bool, true, false, ◌||◌, List, Some, None, Option, ◌==◌}
use Rattle.maps.specs.Graph.{Street, Graph}
use Rattle.lengths.specs.Kinds.{Kind}
use Rattle.walks.specs.Streets.{empty_set}
use Rattle.walks.specs.Runs.{Entry, Table, bounded_run}

-- a test tells whether P holds
abbrev pub Tells : Bool → Type 0 → Type 0
Tells b P = (b ≡ true → P) × (b ≡ false → P → ⊥)

-- junction v is on the map: it is 1 to n
abbrev pub OnMap : Graph → ℕ → Type 0
OnMap G v = (0 < v) × (v ≤ G.junctions)

-- the tree of a transit node v: the bounded run from it without any closure
abbrev pub tree : Kind → Graph → List ℕ → ℕ → Table
tree K G ns v = bounded_run K G ns empty_set v

-- the table holds street e: some junction is settled by it (the root has slot 0, which is no street)
abbrev pub Holds : Table → ℕ → Type 0
Holds T e = (0 < e) × ((v : ℕ) × (l : ℕ) × (T v ≡ Some (e, l)))

-- junction v is settled by street e: the street enters it, its tail is settled, and l is the tail's length joined with the street's
pub record SettledBy (K : Kind) (G : Graph) (T : Table) (v e l : ℕ) : Type 0 where
  pub street : Street
  pub tail : Entry
  pub present : G.street e ≡ Some street
  pub head : street.1 ≡ v
  pub settled : T street.0 ≡ Some tail
  pub joined : K.join tail.1 street.2 ≡ l

-- the slot of an entry is e
abbrev pub slot_is : ℕ → Option Entry → Bool
slot_is e None = false
slot_is e (Some t) = t.0 == e

-- the head of what slot e answers is settled by e
abbrev pub head_settled_by : Table → ℕ → Option Street → Bool
head_settled_by T e None = false
head_settled_by T e (Some a) = slot_is e (T a.1)

-- the test whether the head of street e is settled by e
abbrev pub holds_street : Graph → Table → ℕ → Bool
holds_street G T e = head_settled_by T e (G.street e)

-- the table holds a street of F
abbrev pub Affected : (ℕ → Bool) → Table → Type 0
Affected F T = (e : ℕ) × Holds T e × (F e ≡ true)

-- the slot of an entry is in F
abbrev pub slot_in : (ℕ → Bool) → Option Entry → Bool
slot_in F None = false
slot_in F (Some t) = F t.0

-- the test whether one of junctions 1 to k is settled by a slot of F
abbrev pub affected_up_to : (ℕ → Bool) → Table → ℕ → Bool
affected_up_to F T zero = false
affected_up_to F T (suc k) = slot_in F (T (suc k)) || affected_up_to F T k
