-- The streets that a walk or a run may take: all that a map's slots answer, or some of them.
use Rattle.std.specs.Prelude.{◌≡◌, ℕ, ◌<◌, ◌≤◌, Bool, true, false, cond, not, ◌||◌, List, [], ◌∷◌, Some, None, Option, ◌==◌}
use Rattle.maps.specs.Graph.{Street, Graph}
use Rattle.lengths.specs.Kinds.{Code}

-- the streets by their slots: what each slot number answers
abbrev pub Streets : Type 0
Streets = ℕ → Option Street

-- the set of nothing: no street is closed, or no junction is a transit node
abbrev pub empty_set : ℕ → Bool
empty_set _ = false

-- the set of a list: the junctions or slots that stand in it
abbrev pub member : List ℕ → ℕ → Bool
member [] v = false
member (x ∷ xs) v = x == v || member xs v

-- what a slot answers once it may be left out
abbrev pub omit_if : Bool → Option Street → Option Street
omit_if true o = None
omit_if false o = o

-- the streets outside a set
abbrev pub without : (ℕ → Bool) → Streets → Streets
without F g e = omit_if (F e) (g e)

-- the street, if it leaves the root r or a junction that is no transit node
abbrev pub bounded_at : (ℕ → Bool) → ℕ → Option Street → Option Street
bounded_at N r None = None
bounded_at N r (Some a) = cond (a.0 == r || not (N a.0)) (Some a) None

-- the streets that leave the root r or a junction that is no transit node
abbrev pub bounded_to : (ℕ → Bool) → ℕ → Streets → Streets
bounded_to N r g e = bounded_at N r (g e)

-- the streets that a bounded run from r may take: those outside F that leave r or a junction not in the transit list
abbrev pub run_streets : Graph → List ℕ → (ℕ → Bool) → ℕ → Streets
run_streets G ns F r = bounded_to (member ns) r (without F G.street)

-- every street has a slot of 1 to m and ends of 1 to n, and its length is a code
pub record CodedStreets (g : Streets) (n m : ℕ) : Type 0 where
  pub slots : (e : ℕ) (a : Street) → g e ≡ Some a → (0 < e) × (e ≤ m)
  pub tails : (e : ℕ) (a : Street) → g e ≡ Some a → (0 < a.0) × (a.0 ≤ n)
  pub heads : (e : ℕ) (a : Street) → g e ≡ Some a → (0 < a.1) × (a.1 ≤ n)
  pub codes : (e : ℕ) (a : Street) → g e ≡ Some a → Code a.2

-- a map with n junctions and m slots whose streets are so; every lawful map is one
abbrev pub Coded : Graph → Type 0
Coded G = CodedStreets G.street G.junctions G.slots
