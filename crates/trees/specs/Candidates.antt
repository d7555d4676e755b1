-- The street candidates that are held while a run is underway.
use Rattle.std.specs.Prelude.{◌≡◌, ℕ, zero, suc, ◌+◌, ◌≤◌, cond, List, ◌∷◌, length, is_some, Some, None, Option, ◌==◌}
use Rattle.std.specs.List.{ContainsAt}
use Rattle.maps.specs.Graph.{Street}
use Rattle.lengths.specs.Kinds.{Kind}
use Rattle.walks.specs.Streets.{Streets, omit_if}
use Rattle.walks.specs.Runs.{Entry, Table, table_after}
use Rattle.entries.specs.declared.Candidate.{Candidate}
use Rattle.entries.specs.Records.{candidate}

-- the street, if it leaves v
abbrev pub if_leaves : ℕ → Option Street → Option Street
if_leaves v None = None
if_leaves v (Some a) = cond (a.0 == v) (Some a) None

-- the streets that leave v
abbrev pub leaving : ℕ → Streets → Streets
leaving v g e = if_leaves v (g e)

-- the street, if its head is unsettled
abbrev pub if_unsettled : Table → Option Street → Option Street
if_unsettled T None = None
if_unsettled T (Some a) = omit_if (is_some (T a.1)) (Some a)

-- the streets whose head is unsettled
abbrev pub unsettled_heads : Table → Streets → Streets
unsettled_heads T g e = if_unsettled T (g e)

-- the candidates cs and the one of slot e, if there is such a street, from a tail with length l
abbrev pub with_street : Kind → ℕ → ℕ → Option Street → List Candidate → List Candidate
with_street K l e None cs = cs
with_street K l e (Some a) cs = candidate (K.join l a.2) e ∷ cs

-- the candidates cs and those of slots 1 to k, from a tail with length l
abbrev pub with_streets : Kind → Streets → ℕ → ℕ → List Candidate → List Candidate
with_streets K g l zero cs = cs
with_streets K g l (suc k) cs = with_street K l (suc k) (g (suc k)) (with_streets K g l k cs)

-- 1 for a junction that is unsettled, 0 for a settled one
abbrev pub one_if_unsettled : Option Entry → ℕ
one_if_unsettled None = 1
one_if_unsettled (Some t) = 0

-- 1 for a street whose tail is unsettled, 0 for any other and for none
abbrev pub unsettled_tail : Table → Option Street → ℕ
unsettled_tail T None = 0
unsettled_tail T (Some a) = one_if_unsettled (T a.0)

-- how many streets of slots 1 to k have an unsettled tail
abbrev pub unsettled_tails : Streets → Table → ℕ → ℕ
unsettled_tails g T zero = 0
unsettled_tails g T (suc k) = unsettled_tail T (g (suc k)) + unsettled_tails g T k

-- a run from r over the streets g of slots 1 to m is underway: T is its table after some steps, and cs are the candidates held
pub record Underway (K : Kind) (g : Streets) (m r : ℕ) (T : Table) (cs : List Candidate) : Type 0 where
  -- some number of steps leads to T
  pub after : (k : ℕ) × (T ≡ table_after K g m r k)
  -- each candidate is a street of a settled tail, with its tail's length joined with its own
  pub known : (c : Candidate) → ContainsAt cs c → (a : Street) × (t : Entry) × (g c.slot ≡ Some a) × (T a.0 ≡ Some t) × (c.length ≡ K.join t.1 a.2)
  -- each street of a settled tail with an unsettled head is held
  pub all : (e : ℕ) (a : Street) (t : Entry) → g e ≡ Some a → T a.0 ≡ Some t → T a.1 ≡ None → ContainsAt cs (candidate (K.join t.1 a.2) e)
  -- the candidates held and the streets whose tail is unsettled are no more than there are slots
  pub few : length cs + unsettled_tails g T m ≤ m
