-- The theorems about walks, runs and legs, for every lawful kind and every map whose lengths are codes.
use Rattle.std.specs.Prelude.{◌≡◌, ℕ, ◌≤◌, Bool, true, false, ◌⊎◌, List, length, Some, Option}
use Rattle.std.specs.List.{AllByRecursion}
use Rattle.maps.specs.Graph.{Street, Graph, LawfulMap, EqualStreets, reversed}
use Rattle.lengths.specs.Kinds.{Kind, LawfulKind}
use Rattle.walks.specs.Streets.{Streets, empty_set, member, Coded}
use Rattle.walks.specs.Walks.{Walk, walk_length, Open, Leads, BestOpen}
use Rattle.walks.specs.Runs.{Table, length_of, bounded_run, best_length}
use Rattle.walks.specs.Rule.{RunByRule}
use Rattle.walks.specs.Trees.{Tells, OnMap, tree, Holds, holds_street, SettledBy, Affected, affected_up_to}
use Rattle.walks.specs.Legs.{grid, Target, junction_of, legs_of}

-- a lawful map's lengths are codes
abbrev pub LawfulIsCoded : Type 0
LawfulIsCoded = (G : Graph) → LawfulMap G → Coded G

-- ---- the bounded run
-- a bounded run from r may take street e: it is outside F, and leaves r or a junction that is not in the transit list
abbrev pub UsableFrom : Graph → List ℕ → (ℕ → Bool) → ℕ → ℕ → Type 0
UsableFrom G ns F r e = (F e ≡ false) × ((a : Street) → G.street e ≡ Some a → (a.0 ≡ r) ⊎ (member ns a.0 ≡ false))

-- a bounded run against the streets from r may take street e: it is outside F, and enters r or a junction that is not in the transit list
abbrev pub UsableTo : Graph → List ℕ → (ℕ → Bool) → ℕ → ℕ → Type 0
UsableTo G ns F r e = (F e ≡ false) × ((a : Street) → G.street e ≡ Some a → (a.1 ≡ r) ⊎ (member ns a.1 ≡ false))

-- every settled junction has a walk of the run's own streets, outside F, past no transit node but the root, of exactly its length
abbrev pub RunSound : Type 0
RunSound = (K : Kind) → LawfulKind K → (G : Graph) → Coded G → (ns : List ℕ) (F : ℕ → Bool) (r v e l : ℕ)
    → bounded_run K G ns F r v ≡ Some (e, l)
    → (w : List ℕ) × Walk G.street r w v × AllByRecursion (UsableFrom G ns F r) w × AllByRecursion (Holds (bounded_run K G ns F r)) w × (walk_length K G.street w ≡ l)

-- the run's table is a tree: the root has slot 0 and length zero, and every other settled junction its length by a street into it from a settled one
abbrev pub RunIsTree : Type 0
RunIsTree = (K : Kind) → LawfulKind K → (G : Graph) → Coded G → (ns : List ℕ) (F : ℕ → Bool) (r v e l : ℕ)
    → bounded_run K G ns F r v ≡ Some (e, l) → ((v ≡ r) × (e ≡ 0) × (l ≡ K.zero)) ⊎ SettledBy K G (bounded_run K G ns F r) v e l

-- every junction to which a walk outside F and past no transit node but the root leads is settled, no worse than that walk
abbrev pub RunComplete : Type 0
RunComplete = (K : Kind) → LawfulKind K → (G : Graph) → Coded G → (ns : List ℕ) (F : ℕ → Bool) (r v : ℕ) (w : List ℕ)
    → Walk G.street r w v → AllByRecursion (UsableFrom G ns F r) w
    → (e : ℕ) × (l : ℕ) × (bounded_run K G ns F r v ≡ Some (e, l)) × (K.no_worse l (walk_length K G.street w) ≡ true)

-- the run against the streets: every settled junction has a walk to the root, outside F, past no transit node but the root, of exactly its length
abbrev pub ReversedSound : Type 0
ReversedSound = (K : Kind) → LawfulKind K → (G : Graph) → Coded G → (ns : List ℕ) (F : ℕ → Bool) (r v e l : ℕ)
    → bounded_run K (reversed G) ns F r v ≡ Some (e, l)
    → (w : List ℕ) × Walk G.street v w r × AllByRecursion (UsableTo G ns F r) w × (walk_length K G.street w ≡ l)

-- and every junction from which such a walk leads to the root is settled, no worse than that walk
abbrev pub ReversedComplete : Type 0
ReversedComplete = (K : Kind) → LawfulKind K → (G : Graph) → Coded G → (ns : List ℕ) (F : ℕ → Bool) (r v : ℕ) (w : List ℕ)
    → Walk G.street v w r → AllByRecursion (UsableTo G ns F r) w
    → (e : ℕ) × (l : ℕ) × (bounded_run K (reversed G) ns F r v ≡ Some (e, l)) × (K.no_worse l (walk_length K G.street w) ≡ true)

-- the run as defined is a run by the rule
abbrev pub RunFollowsRule : Type 0
RunFollowsRule = (K : Kind) → LawfulKind K → (G : Graph) → Coded G → (ns : List ℕ) (F : ℕ → Bool) (r : ℕ) → RunByRule K G ns F r (bounded_run K G ns F r)

-- and every run by the rule ends with its table
abbrev pub RuleHasOneRun : Type 0
RuleHasOneRun = (K : Kind) → LawfulKind K → (G : Graph) → Coded G → (ns : List ℕ) (F : ℕ → Bool) (r : ℕ) (T : Table)
    → RunByRule K G ns F r T → (v : ℕ) → T v ≡ bounded_run K G ns F r v

-- ---- trees
-- a run holds a street exactly if its head is settled by it
abbrev pub HeldAtHead : Type 0
HeldAtHead = (K : Kind) → LawfulKind K → (G : Graph) → Coded G → (ns : List ℕ) (F : ℕ → Bool) (r e : ℕ)
    → Tells (holds_street G (bounded_run K G ns F r) e) (Holds (bounded_run K G ns F r) e)

-- a tree none of whose streets is in F has the same junctions and lengths as the run without F
abbrev pub UnaffectedKeeps : Type 0
UnaffectedKeeps = (K : Kind) → LawfulKind K → (G : Graph) → Coded G → (ns : List ℕ) (F : ℕ → Bool) (r : ℕ)
    → (Affected F (tree K G ns r) → ⊥) → (v : ℕ) → length_of (tree K G ns r v) ≡ length_of (bounded_run K G ns F r v)

-- the test over all junctions tells whether the tree of a junction on the map holds a street of F; slot 0 is no street, so not in F
abbrev pub AffectedByTest : Type 0
AffectedByTest = (K : Kind) → LawfulKind K → (G : Graph) → Coded G → (ns : List ℕ) (F : ℕ → Bool) → F 0 ≡ false → (r : ℕ) → OnMap G r
    → Tells (affected_up_to F (tree K G ns r) G.junctions) (Affected F (tree K G ns r))

-- ---- answers
-- at most one answer is right, also across two maps with equal streets and equal closures
abbrev pub OneAnswer : Type 0
OneAnswer = (K : Kind) → LawfulKind K → (G H : Graph) → Coded G → EqualStreets G H → (F E : ℕ → Bool) → ((e : ℕ) → F e ≡ E e)
    → (s t : ℕ) (a b : Option ℕ) → BestOpen K G.street F s t a → BestOpen K H.street E s t b → a ≡ b

-- the run with no transit list gives the right answer, so there is one
abbrev pub RunAnswers : Type 0
RunAnswers = (K : Kind) → LawfulKind K → (G : Graph) → Coded G → (F : ℕ → Bool) (s t : ℕ) → BestOpen K G.street F s t (best_length K G F s t)

-- ---- legs, of at most 16 transit nodes, to any position or the goal
-- an open walk splits at its visits of transit nodes: a way over the legs is no worse
abbrev pub WalksSplit : Type 0
WalksSplit = (K : Kind) → LawfulKind K → (G : Graph) → Coded G → (ns : List ℕ) → length ns ≤ 16 → (F : ℕ → Bool) (s t q : ℕ) → Target (length ns) q
    → (w : List ℕ) → Walk G.street s w (junction_of ns s t q) → Open F w
    → (d : List ℕ) × Walk (grid (legs_of K G ns F s t)) 0 d q × (K.no_worse (walk_length K (grid (legs_of K G ns F s t)) d) (walk_length K G.street w) ≡ true)

-- a way over the legs is as long as some open walk
abbrev pub LegsCompose : Type 0
LegsCompose = (K : Kind) → LawfulKind K → (G : Graph) → Coded G → (ns : List ℕ) → length ns ≤ 16 → (F : ℕ → Bool) (s t q : ℕ) → Target (length ns) q
    → (d : List ℕ) → Walk (grid (legs_of K G ns F s t)) 0 d q
    → (w : List ℕ) × Walk G.street s w (junction_of ns s t q) × Open F w × (walk_length K G.street w ≡ walk_length K (grid (legs_of K G ns F s t)) d)

-- so the best of the direct length and of access, legs and egress is the best open length: to the goal, and to each transit node
abbrev pub LegsAnswer : Type 0
LegsAnswer = (K : Kind) → LawfulKind K → (G : Graph) → Coded G → (ns : List ℕ) → length ns ≤ 16 → (F : ℕ → Bool) (s t q : ℕ) → Target (length ns) q
    → (a : Option ℕ) → BestOpen K (grid (legs_of K G ns F s t)) empty_set 0 q a → BestOpen K G.street F s (junction_of ns s t q) a

-- and the other way round
abbrev pub AnswerByLegs : Type 0
AnswerByLegs = (K : Kind) → LawfulKind K → (G : Graph) → Coded G → (ns : List ℕ) → length ns ≤ 16 → (F : ℕ → Bool) (s t q : ℕ) → Target (length ns) q
    → (a : Option ℕ) → BestOpen K G.street F s (junction_of ns s t q) a → BestOpen K (grid (legs_of K G ns F s t)) empty_set 0 q a

-- over the legs d node q is reached exactly if an open walk leads from s to v
pub record SameReach (g d : Streets) (F : ℕ → Bool) (s v q : ℕ) : Type 0 where
  pub by_walk : Leads d empty_set 0 q → Leads g F s v
  pub by_legs : Leads g F s v → Leads d empty_set 0 q

-- a node is reached over the legs exactly if an open walk leads to its junction
abbrev pub ReachedByLegs : Type 0
ReachedByLegs = (K : Kind) → LawfulKind K → (G : Graph) → Coded G → (ns : List ℕ) → length ns ≤ 16 → (F : ℕ → Bool) (s t q : ℕ) → Target (length ns) q
    → SameReach G.street (grid (legs_of K G ns F s t)) F s (junction_of ns s t q) q
