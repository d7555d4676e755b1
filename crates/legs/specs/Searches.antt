-- What the run over legs keeps: the nodes that are reached, those that wait, and how many they are.
use Rattle.std.specs.Prelude.{◌≡◌, ℕ, zero, suc, ◌+◌, ◌≤◌, List, ◌∷◌, length, Some, None, Option}
use Rattle.std.specs.List.{ContainsAt}
use Rattle.lengths.specs.Kinds.{Kind}
use Rattle.entries.specs.declared.Node.{Node}
use Rattle.entries.specs.Records.{node}
use Rattle.walks.specs.Runs.{Entry, Table, length_of}
use Rattle.walks.specs.Legs.{Legs, grid}
use Rattle.walks.proofs.Invariant.{Invariant}

-- the best lengths known so far
abbrev pub Lengths : Type 0
Lengths = ℕ → Option ℕ

-- a leg, unless its head is reached
abbrev pub unless_reached : Option ℕ → Option ℕ → Option ℕ
unless_reached None o = o
unless_reached (Some x) o = None

-- of the legs d from one node those to nodes that are not reached
abbrev pub open_legs : Lengths → (ℕ → Option ℕ) → ℕ → Option ℕ
open_legs L d j = unless_reached (L j) (d j)

-- hs and the node j, by a leg from a node with length l
abbrev pub adding : Kind → ℕ → ℕ → Option ℕ → List Node → List Node
adding K l j None hs = hs
adding K l j (Some w) hs = node (K.join l w) j ∷ hs

-- hs and the nodes, of positions 1 to k, to which d has a leg
unfoldable pub adding_positions : Kind → (ℕ → Option ℕ) → ℕ → ℕ → List Node → List Node
adding_positions K d l zero hs = hs
adding_positions K d l (suc k) hs = adding K l (suc k) (d (suc k)) (adding_positions K d l k hs)

-- and the goal
abbrev pub adding_all : Kind → (ℕ → Option ℕ) → ℕ → ℕ → List Node → List Node
adding_all K d l k hs = adding K l 31 (d 31) (adding_positions K d l k hs)

-- 1 for a node that is not reached
abbrev pub blank : Option ℕ → ℕ
blank None = 1
blank (Some l) = 0

-- how many of the goal and positions 1 to k are not reached
unfoldable pub unreached : Lengths → ℕ → ℕ
unreached L zero = blank (L 31)
unreached L (suc k) = blank (L (suc k)) + unreached L k

-- how many pairs n nodes have
unfoldable pub pairs : ℕ → ℕ
pairs zero = 0
pairs (suc n) = n + pairs n

-- a leg from a reached node leads to x, with x's length
abbrev pub Offered : Kind → Legs → Table → Node → Type 0
Offered K D T x = (i : ℕ) × (t : Entry) × (w : ℕ) × (D i x.position ≡ Some w) × (T i ≡ Some t) × (x.length ≡ K.join t.1 w)

-- with k list positions the lengths L are known and the nodes hs wait
pub record Searched (K : Kind) (D : Legs) (k : ℕ) (L : Lengths) (hs : List Node) : Type 0 where
  pub table : Table
  pub kept : Invariant K (grid D) 0 table
  pub shows : (v : ℕ) → length_of (table v) ≡ L v
  -- what waits is offered by a leg, and what a leg offers to a node that is not reached waits
  pub offered : (x : Node) → ContainsAt hs x → Offered K D table x
  pub waits : (i j w : ℕ) (t : Entry) → D i j ≡ Some w → table i ≡ Some t → table j ≡ None → ContainsAt hs (node (K.join t.1 w) j)
  -- one entry for each node from the start, and one for each pair of later nodes, are enough
  pub few : length hs + pairs (unreached L k) ≤ suc k + pairs (suc k)
