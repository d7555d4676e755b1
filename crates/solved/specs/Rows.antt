-- The forms of a solved example, and what an example of each form says, in the relations that the contracts of the code cite.
use Rattle.std.specs.Prelude.{◌≡◌, ℕ, zero, suc, true, List, [], ◌∷◌, map, length, Some, None, Option}
use Rattle.maps.specs.Graph.{Street, Graph}
use Rattle.sheet.specs.Layout.{sheet_graph}
use Rattle.sheet.specs.Meaning as sheet
use Rattle.block.specs.Layout.{block_graph}
use Rattle.block.specs.Meaning as block
use Rattle.lengths.specs.Kinds.{Kind, paces, gates}
use Rattle.walks.specs.Streets.{member}
use Rattle.walks.specs.Walks.{BestOpen}
use Rattle.walks.specs.Trees.{Tells, tree, Holds}
use Rattle.asks.specs.Redone.{Redone}
use Rattle.asks.specs.Held.{closed_held}
use Rattle.asks.specs.Index.{tree_at, positions}
use Rattle.asks.specs.Handed.{stored_legs, handed_legs}
use Rattle.calls.specs.Moments.{Moment, created, ask_fault}
use Rattle.calls.specs.Lives.{Life, after_all}
use Rattle.calls.specs.declared.Call.{Call}
use Rattle.calls.specs.declared.Answer.{Answer}

-- ---- map files
-- the bytes of a file, to be read as a sheet or as a block
pub data File : Type 0 where
  sheet_file : List ℕ → File
  block_file : List ℕ → File

-- the map that the bytes say
abbrev pub map_of : File → Graph
map_of (sheet_file bs) = sheet_graph bs
map_of (block_file bs) = block_graph bs

-- the file is refused with this number, 0 if it is accepted
abbrev pub Judged : File → ℕ → Type 0
Judged (sheet_file bs) k = sheet.Judged bs k
Judged (block_file bs) k = block.Judged bs k

-- the bytes say the map g
abbrev pub Says : File → Graph → Type 0
Says (sheet_file bs) g = sheet.Says bs g
Says (block_file bs) g = block.Says bs g

-- what each slot answers, from slot 1 on; there is no other street
abbrev pub slots_of : List (Option Street) → ℕ → Option Street
slots_of [] e = None
slots_of (o ∷ os) zero = None
slots_of (o ∷ os) (suc zero) = o
slots_of (o ∷ os) (suc (suc e)) = slots_of os (suc e)

-- the map with n junctions and these slots
abbrev pub written : ℕ → List (Option Street) → Graph
written n os = record { junctions = n; slots = length os; street = slots_of os }

-- ---- kinds of length, by their names
pub data Measure : Type 0 where
  in_paces : Measure
  in_gates : Measure

abbrev pub kind_of : Measure → Kind
kind_of in_paces = paces
kind_of in_gates = gates

-- ---- the forms
-- calls, each with its answer
abbrev pub Exchange : Type 0
Exchange = List (Call × Answer)

abbrev pub calls_of : Exchange → List Call
calls_of xs = map (λ x. x.0) xs

abbrev pub answers_of : Exchange → List Answer
answers_of xs = map (λ x. x.1) xs

-- a solved example; F stands for a list of closed slots, ns for a transit list
pub data Row : Type 0 where
  -- refused f k: the file f is refused with k, or accepted if k is 0
  refused : File → ℕ → Row
  -- says f n os: the file f is accepted, and says the map with n junctions and the slots os
  says : File → ℕ → List (Option Street) → Row
  -- settles K f ns u v e l: the tree of u settles v by slot e with length l
  settles : Measure → File → List ℕ → ℕ → ℕ → ℕ → ℕ → Row
  -- holds K f ns u es: the tree of u holds just the slots es
  holds : Measure → File → List ℕ → ℕ → List ℕ → Row
  -- kept K f ns F i k: the tree at position i holds k closed streets
  kept : Measure → File → List ℕ → List ℕ → ℕ → ℕ → Row
  -- indexed K f ns e ps: the inverted index has the positions ps for slot e
  indexed : Measure → File → List ℕ → ℕ → List ℕ → Row
  -- stored K f ns i j o: the stored leg from position i to position j
  stored : Measure → File → List ℕ → ℕ → ℕ → Option ℕ → Row
  -- handed K f ns F s t i j o: the leg from node i to node j that an ask s t hands on
  handed : Measure → File → List ℕ → List ℕ → ℕ → ℕ → ℕ → ℕ → Option ℕ → Row
  -- asked K f cs s t o r: after the calls cs the best open length from s to t is o, and r trees are redone
  asked : Measure → File → List Call → ℕ → ℕ → Option ℕ → ℕ → Row
  -- lived K f xs: in a life over the map of f these calls get these answers
  lived : Measure → File → Exchange → Row

-- the file of an example
abbrev pub file_of : Row → File
file_of (refused f k) = f
file_of (says f n os) = f
file_of (settles K f ns u v e l) = f
file_of (holds K f ns u es) = f
file_of (kept K f ns F i k) = f
file_of (indexed K f ns e ps) = f
file_of (stored K f ns i j o) = f
file_of (handed K f ns F s t i j o) = f
file_of (asked K f cs s t o r) = f
file_of (lived K f xs) = f

-- the number with which the file of an example is refused, 0 where the example needs it accepted
abbrev pub number_of : Row → ℕ
number_of (refused f k) = k
number_of (says f n os) = 0
number_of (settles K f ns u v e l) = 0
number_of (holds K f ns u es) = 0
number_of (kept K f ns F i k) = 0
number_of (indexed K f ns e ps) = 0
number_of (stored K f ns i j o) = 0
number_of (handed K f ns F s t i j o) = 0
number_of (asked K f cs s t o r) = 0
number_of (lived K f xs) = 0

-- ---- what they say
-- at the moment m, of an index, o is the best length of the open walks from s to t, two junctions of the map, or none; r trees are redone
pub record Asked (K : Kind) (G : Graph) (m : Moment) (s t : ℕ) (o : Option ℕ) (r : ℕ) : Type 0 where
  pub index : m.built ≡ true
  pub ends : ask_fault G s t ≡ None
  pub length : BestOpen K G.street m.closed s t o
  pub redone : Redone K G m.listed m.closed s r

-- what an example says of the map of its file
abbrev pub OfMap : Row → Type 0
OfMap (refused f k) = Unit {0}
OfMap (says f n os) = Says f (written n os)
OfMap (settles K f ns u v e l) = tree (kind_of K) (map_of f) ns u v ≡ Some (e, l)
OfMap (holds K f ns u es) = (e : ℕ) → Tells (member es e) (Holds (tree (kind_of K) (map_of f) ns u) e)
OfMap (kept K f ns F i k) = closed_held (member F) (tree_at (kind_of K) (map_of f) ns i) (map_of f).junctions ≡ k
OfMap (indexed K f ns e ps) = positions (kind_of K) (map_of f) ns e ≡ ps
OfMap (stored K f ns i j o) = stored_legs (kind_of K) (map_of f) ns i j ≡ o
OfMap (handed K f ns F s t i j o) = handed_legs (kind_of K) (map_of f) ns (member F) s t i j ≡ o
OfMap (asked K f cs s t o r) = Asked (kind_of K) (map_of f) (after_all (map_of f) created cs) s t o r
OfMap (lived K f xs) = Life (kind_of K) (map_of f) created (calls_of xs) (answers_of xs)

-- an example stands: its file is judged so, and what it says of the map holds
pub record Stands (r : Row) : Type 0 where
  pub file : Judged (file_of r) (number_of r)
  pub map : OfMap r
