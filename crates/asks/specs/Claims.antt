-- The theorems about what an ask works out, for every lawful kind and every map whose lengths are codes.
use Rattle.std.specs.Prelude.{◌≡◌, ℕ, suc, ◌+◌, ◌<◌, ◌≤◌, Bool, true, false, List, length, is_some, Some, None, Option, ◌≢◌}
use Rattle.std.specs.List.{range_with_len, AllByRecursion}
use Rattle.maps.specs.Graph.{Graph}
use Rattle.lengths.specs.Kinds.{Kind, LawfulKind}
use Rattle.walks.specs.Streets.{empty_set, member, Coded}
use Rattle.walks.specs.Walks.{Walk, walk_length, Leads, BestOpen}
use Rattle.walks.specs.Runs.{Table, length_of}
use Rattle.walks.specs.Trees.{Tells, OnMap, tree, Holds, Affected}
use Rattle.walks.specs.Legs.{Legs, grid, Target, junction_of, legs_of}
use Rattle.walks.specs.Claims.{SameReach}
use Rattle.asks.specs.Redone.{Counted, Redone}
use Rattle.asks.specs.Held.{bit, closed_held, is_affected, marked}
use Rattle.asks.specs.Index.{node_at, tree_at, positions, Rising}
use Rattle.asks.specs.Handed.{stored_legs, handed_legs, filled_legs}
use Rattle.asks.specs.Reached.{passing, is_redone}
use Rattle.asks.specs.Bounded.{PastNoOther, LeadsPast, BestPast}

-- ---- trees and stored legs
-- the tree of u in words: it has a junction exactly if a walk from u leads there past no other transit node, with the best length of such walks;
-- and the tree's own streets from the root are such a walk of that length
pub record TreeInWords (K : Kind) (G : Graph) (ns : List ℕ) (u : ℕ) : Type 0 where
  pub has : (v : ℕ) → Tells (is_some (tree K G ns u v)) (LeadsPast G ns u v)
  pub best : (v : ℕ) → BestPast K G ns u v (length_of (tree K G ns u v))
  pub own : (v e l : ℕ) → tree K G ns u v ≡ Some (e, l)
      → (w : List ℕ) × Walk G.street u w v × PastNoOther G ns u w × AllByRecursion (Holds (tree K G ns u)) w × (walk_length K G.street w ≡ l)

abbrev pub TreesInWords : Type 0
TreesInWords = (K : Kind) → LawfulKind K → (G : Graph) → Coded G → (ns : List ℕ) (u : ℕ) → TreeInWords K G ns u

-- the stored legs in words: from a position to another one a leg is present exactly if a walk leads there past no other transit node, with the best length of such walks;
-- there is no leg from a position to itself, nor from or to what is no position
pub record LegsInWords (K : Kind) (G : Graph) (ns : List ℕ) : Type 0 where
  pub has : (i j : ℕ) → 0 < i → i ≤ length ns → 0 < j → j ≤ length ns → (i ≢ j)
      → Tells (is_some (stored_legs K G ns i j)) (LeadsPast G ns (node_at ns i) (node_at ns j))
  pub best : (i j : ℕ) → 0 < i → i ≤ length ns → 0 < j → j ≤ length ns → (i ≢ j) → BestPast K G ns (node_at ns i) (node_at ns j) (stored_legs K G ns i j)
  pub itself : (i : ℕ) → stored_legs K G ns i i ≡ None
  pub outside : (i j : ℕ) → ((0 < i) × (i ≤ length ns) × (0 < j) × (j ≤ length ns) → ⊥) → stored_legs K G ns i j ≡ None

abbrev pub StoredInWords : Type 0
StoredInWords = (K : Kind) → LawfulKind K → (G : Graph) → Coded G → (ns : List ℕ) → LegsInWords K G ns

-- ---- the number of closed streets that a tree holds
-- a tree's number is that of the closed streets that it holds, counted over the slots
abbrev pub NumberCounts : Type 0
NumberCounts = (K : Kind) → LawfulKind K → (G : Graph) → Coded G → (ns : List ℕ) (v : ℕ) → OnMap G v → (F : ℕ → Bool) → F 0 ≡ false
    → Counted (λ e. Holds (tree K G ns v) e × (F e ≡ true)) (range_with_len 1 G.slots) (closed_held F (tree K G ns v) G.junctions)

-- a tree's number is zero exactly if the tree holds no closed street, and that is what the test tells
pub record NumberTells (F : ℕ → Bool) (T : Table) (n : ℕ) : Type 0 where
  pub none : closed_held F T n ≡ 0 → Affected F T → ⊥
  pub some : 0 < closed_held F T n → Affected F T
  pub test : Tells (is_affected F T n) (Affected F T)

abbrev pub AffectedByNumber : Type 0
AffectedByNumber = (K : Kind) → LawfulKind K → (G : Graph) → Coded G → (ns : List ℕ) (v : ℕ) → OnMap G v → (F : ℕ → Bool) → F 0 ≡ false
    → NumberTells F (tree K G ns v) G.junctions

-- closing or reopening street e changes a tree's number by one exactly if the tree holds e, and else not
pub record NumberFollows (F : ℕ → Bool) (T : Table) (n e : ℕ) : Type 0 where
  pub close : F e ≡ false → Holds T e → closed_held (marked F e true) T n ≡ suc (closed_held F T n)
  pub reopen : F e ≡ true → Holds T e → suc (closed_held (marked F e false) T n) ≡ closed_held F T n
  pub apart : (b : Bool) → (Holds T e → ⊥) → closed_held (marked F e b) T n ≡ closed_held F T n

abbrev pub NumberFollowsMarks : Type 0
NumberFollowsMarks = (K : Kind) → LawfulKind K → (G : Graph) → Coded G → (ns : List ℕ) (v : ℕ) → OnMap G v → (F : ℕ → Bool) (e : ℕ) → 0 < e
    → NumberFollows F (tree K G ns v) G.junctions e

-- ---- the inverted index
-- street e has position i exactly if i is a position whose tree holds e, and its positions rise
pub record Inverts (K : Kind) (G : Graph) (ns : List ℕ) (e : ℕ) : Type 0 where
  pub has : (i : ℕ) → Tells (member (positions K G ns e) i) ((0 < i) × (i ≤ length ns) × Holds (tree_at K G ns i) e)
  pub rises : Rising (positions K G ns e)
  pub few : length (positions K G ns e) ≤ length ns

abbrev pub IndexInverts : Type 0
IndexInverts = (K : Kind) → LawfulKind K → (G : Graph) → Coded G → (ns : List ℕ) (e : ℕ) → Inverts K G ns e

-- so closing street e raises the numbers of the trees at its positions by one, reopening it lowers them by one, and the others stay
pub record NumbersByIndex (K : Kind) (G : Graph) (ns : List ℕ) (F : ℕ → Bool) (e i : ℕ) : Type 0 where
  pub close : F e ≡ false
      → closed_held (marked F e true) (tree_at K G ns i) G.junctions ≡ closed_held F (tree_at K G ns i) G.junctions + bit (member (positions K G ns e) i)
  pub reopen : F e ≡ true
      → closed_held F (tree_at K G ns i) G.junctions ≡ closed_held (marked F e false) (tree_at K G ns i) G.junctions + bit (member (positions K G ns e) i)

abbrev pub NumbersFollowIndex : Type 0
NumbersFollowIndex = (K : Kind) → LawfulKind K → (G : Graph) → Coded G → (ns : List ℕ) → AllByRecursion (OnMap G) ns → (F : ℕ → Bool) (e i : ℕ) → 0 < e → 0 < i → i ≤ length ns
    → NumbersByIndex K G ns F e i

-- ---- the legs that an ask hands on
-- they are the legs without the closed streets
abbrev pub HandedAreLegs : Type 0
HandedAreLegs = (K : Kind) → LawfulKind K → (G : Graph) → Coded G → (ns : List ℕ) → AllByRecursion (OnMap G) ns → length ns ≤ 16 → (F : ℕ → Bool) (s t i j : ℕ)
    → handed_legs K G ns F s t i j ≡ legs_of K G ns F s t i j

-- so the best way over them is the best open way, to the goal and to each transit node
abbrev pub HandedAnswer : Type 0
HandedAnswer = (K : Kind) → LawfulKind K → (G : Graph) → Coded G → (ns : List ℕ) → AllByRecursion (OnMap G) ns → length ns ≤ 16 → (F : ℕ → Bool) (s t q : ℕ) → Target (length ns) q
    → (a : Option ℕ) → BestOpen K (grid (handed_legs K G ns F s t)) empty_set 0 q a → BestOpen K G.street F s (junction_of ns s t q) a

-- and a node is reached over them exactly if an open walk leads to its junction
abbrev pub HandedReach : Type 0
HandedReach = (K : Kind) → LawfulKind K → (G : Graph) → Coded G → (ns : List ℕ) → AllByRecursion (OnMap G) ns → length ns ≤ 16 → (F : ℕ → Bool) (s t q : ℕ) → Target (length ns) q
    → SameReach G.street (grid (handed_legs K G ns F s t)) F s (junction_of ns s t q) q

-- ---- legs of which only the reached rows are filled in
-- the rows of D and E are the same at every node that is reached over D
abbrev pub AgreesWhereReached : Legs → Legs → Type 0
AgreesWhereReached D E = (i : ℕ) → Leads (grid D) empty_set 0 i → (j : ℕ) → D i j ≡ E i j

-- then the best ways from the start are the same over D and over E
pub record SameBest (K : Kind) (D E : Legs) (q : ℕ) (a : Option ℕ) : Type 0 where
  pub whole : BestOpen K (grid D) empty_set 0 q a → BestOpen K (grid E) empty_set 0 q a
  pub part : BestOpen K (grid E) empty_set 0 q a → BestOpen K (grid D) empty_set 0 q a

abbrev pub PartialLegsAnswer : Type 0
PartialLegsAnswer = (K : Kind) (D E : Legs) → AgreesWhereReached D E → (q : ℕ) (a : Option ℕ) → SameBest K D E q a

-- so an ask may leave rows absent that are not reached: the best way is still the best open way, to the goal and to each transit node
abbrev pub PartialHandedAnswer : Type 0
PartialHandedAnswer = (K : Kind) → LawfulKind K → (G : Graph) → Coded G → (ns : List ℕ) → AllByRecursion (OnMap G) ns → length ns ≤ 16 → (F : ℕ → Bool) (s t : ℕ) (D : Legs)
    → AgreesWhereReached D (handed_legs K G ns F s t) → (q : ℕ) → Target (length ns) q
    → (a : Option ℕ) → BestOpen K (grid D) empty_set 0 q a → BestOpen K G.street F s (junction_of ns s t q) a

-- and a node is reached over them exactly if an open walk leads to its junction
abbrev pub PartialHandedReach : Type 0
PartialHandedReach = (K : Kind) → LawfulKind K → (G : Graph) → Coded G → (ns : List ℕ) → AllByRecursion (OnMap G) ns → length ns ≤ 16 → (F : ℕ → Bool) (s t : ℕ) (D : Legs)
    → AgreesWhereReached D (handed_legs K G ns F s t) → (q : ℕ) → Target (length ns) q → SameReach G.street (grid D) F s (junction_of ns s t q) q

-- a round is the last one if each position that it reaches and whose tree is affected is in R
abbrev pub LastRound : Type 0
LastRound = (K : Kind) (G : Graph) (ns : List ℕ) (F : ℕ → Bool) (s t : ℕ) (R : ℕ → Bool)
    → ((i : ℕ) → 0 < i → i ≤ length ns → Leads (grid (filled_legs K G ns F s t R)) empty_set 0 i → is_affected F (tree_at K G ns i) G.junctions ≡ true → R i ≡ true)
    → AgreesWhereReached (filled_legs K G ns F s t R) (handed_legs K G ns F s t)

-- what a round reaches, a round with more rows reaches too
abbrev pub RoundsGrow : Type 0
RoundsGrow = (K : Kind) (G : Graph) (ns : List ℕ) (F : ℕ → Bool) (s t : ℕ) (R Q : ℕ → Bool) → ((i : ℕ) → R i ≡ true → Q i ≡ true)
    → (v : ℕ) → Leads (grid (filled_legs K G ns F s t R)) empty_set 0 v → Leads (grid (filled_legs K G ns F s t Q)) empty_set 0 v

-- ---- redone
-- at most one redone count is right
abbrev pub RedoneOnce : Type 0
RedoneOnce = (K : Kind) (G : Graph) (ns : List ℕ) (F : ℕ → Bool) (s a b : ℕ) → Redone K G ns F s a → Redone K G ns F s b → a ≡ b

-- it is the number of positions whose transit node has a right length from s, and whose tree is affected
abbrev pub RedoneByLengths : Type 0
RedoneByLengths = (K : Kind) → LawfulKind K → (G : Graph) → Coded G → (ns : List ℕ) → AllByRecursion (OnMap G) ns → (F : ℕ → Bool) → F 0 ≡ false → (s : ℕ) (A : ℕ → Option ℕ)
    → ((i : ℕ) → 0 < i → i ≤ length ns → BestOpen K G.street F s (node_at ns i) (A i))
    → Redone K G ns F s (passing (is_redone K G ns F A) (length ns))

-- so a right search tells it, over the legs handed on or over their reached rows
abbrev pub RedoneBySearch : Type 0
RedoneBySearch = (K : Kind) → LawfulKind K → (G : Graph) → Coded G → (ns : List ℕ) → AllByRecursion (OnMap G) ns → length ns ≤ 16 → (F : ℕ → Bool) → F 0 ≡ false → (s t : ℕ) (D : Legs)
    → AgreesWhereReached D (handed_legs K G ns F s t) → (A : ℕ → Option ℕ)
    → ((i : ℕ) → 0 < i → i ≤ length ns → BestOpen K (grid D) empty_set 0 i (A i))
    → Redone K G ns F s (passing (is_redone K G ns F A) (length ns))
