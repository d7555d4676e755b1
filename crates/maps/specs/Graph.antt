-- What a map means: junctions and slots are numbered from 1; a slot is empty or holds a street from its tail to its head.
use Rattle.std.specs.Prelude.{◌≡◌, ℕ, ◌^◌, ◌<◌, ◌≤◌, Some, None, Option}

-- a street: tail, head, length
abbrev pub Street : Type 0
Street = ℕ × ℕ × ℕ

-- how many junctions and slots there are, and what each slot number answers
pub record Graph : Type 0 where
  pub junctions : ℕ
  pub slots : ℕ
  pub street : ℕ → Option Street

-- two maps have equal streets if each slot number answers alike; their slot counts may differ
abbrev pub EqualStreets : Graph → Graph → Type 0
EqualStreets g h = (e : ℕ) → g.street e ≡ h.street e

-- the tail and the head of what a slot answers, 0 where it is absent; no junction is numbered 0
abbrev pub tail_of : Option Street → ℕ
tail_of None = 0
tail_of (Some s) = s.0

abbrev pub head_of : Option Street → ℕ
head_of None = 0
head_of (Some s) = s.1

-- street e leaves junction v: its tail is v
abbrev pub Leaves : Graph → ℕ → ℕ → Type 0
Leaves g v e = (0 < v) × (tail_of (g.street e) ≡ v)

-- street e enters junction v: its head is v
abbrev pub Enters : Graph → ℕ → ℕ → Type 0
Enters g v e = (0 < v) × (head_of (g.street e) ≡ v)

-- k comes before r, where none stands after every number
abbrev pub Before : Option ℕ → ℕ → Type 0
Before None k = Unit {0}
Before (Some e) k = k < e

-- r has P, if it is some number
abbrev pub Here : (ℕ → Type 0) → Option ℕ → Type 0
Here P None = Unit {0}
Here P (Some e) = P e

-- r is the lowest number above a that has P, or none if there is none
pub record Lowest (P : ℕ → Type 0) (a : ℕ) (r : Option ℕ) : Type 0 where
  pub above : Here (λ e. a < e) r
  pub here : Here P r
  pub gap : (k : ℕ) → a < k → Before r k → P k → ⊥

-- a street of a map with n junctions: both ends are 1 to n, and its length is below 2^32
abbrev pub Placed : ℕ → Option Street → Type 0
Placed n None = Unit {0}
Placed n (Some s) = (0 < s.0) × (s.0 ≤ n) × (0 < s.1) × (s.1 ≤ n) × (s.2 < 2 ^ 32)

-- the bounds that hold of every map: 1 to 128 junctions, at most 512 slots, streets only in slots 1 to m
pub record LawfulMap (g : Graph) : Type 0 where
  pub some_junction : 0 < g.junctions
  pub few_junctions : g.junctions ≤ 128
  pub few_slots : g.slots ≤ 512
  pub no_zero : g.street 0 ≡ None
  pub no_more : (e : ℕ) → g.slots < e → g.street e ≡ None
  pub placed : (e : ℕ) → Placed g.junctions (g.street e)

-- a street the other way round
abbrev pub turned : Option Street → Option Street
turned None = None
turned (Some s) = Some (s.1, s.0, s.2)

-- the map with every street the other way round
abbrev pub reversed : Graph → Graph
reversed g = record { junctions = g.junctions; slots = g.slots; street = λ e. turned (g.street e) }
