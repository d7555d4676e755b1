-- The promise over two lives.
use Rattle.std.specs.Prelude.{◌≡◌, ℕ, Bool, true, List, take, Some, Option}
use Rattle.std.specs.List.{slice_get}
use Rattle.maps.specs.Graph.{Graph}
use Rattle.lengths.specs.Kinds.{Kind}
use Rattle.walks.specs.Streets.{Streets}
use Rattle.walks.specs.Walks.{Walk, walk_length, Open, Leads}
use Rattle.walks.specs.Trees.{OnMap}
use Rattle.calls.specs.Moments.{created}
use Rattle.calls.specs.Lives.{Life, built_by, Orderly, closed_by, Alike, telling, told}
use Rattle.calls.specs.declared.Call.{Call}
use Rattle.calls.specs.declared.Call.TheVariants.{Ask}
use Rattle.calls.specs.declared.Answer.{Answer}
use Rattle.calls.specs.declared.Answer.TheVariants.{Length, NoWay}

-- ---- the lengths answered
-- l is the length of some walk from s to t that is open while the streets of F are closed, and no worse than that of every other such walk
pub record BestLength (K : Kind) (g : Streets) (F : ℕ → Bool) (s t l : ℕ) : Type 0 where
  pub walked : (w : List ℕ) × Walk g s w t × Open F w × (walk_length K g w ≡ l)
  pub best : (w : List ℕ) → Walk g s w t → Open F w → K.no_worse l (walk_length K g w) ≡ true

-- where call i (from 0) asks s t and is answered with a length, that is the best one while the streets are closed that the calls before it have closed
abbrev pub LengthsBest : Kind → Graph → List Call → List Answer → Type 0
LengthsBest K G cs rs = (i s t l r : ℕ) → slice_get cs i ≡ Some (Ask s t) → slice_get rs i ≡ Some (Length l r) → BestLength K G.street (closed_by G (take i cs)) s t l

-- ---- no way
-- a is no way exactly if no open walk leads from s to t, and otherwise a length
pub record NoWayExactly (g : Streets) (F : ℕ → Bool) (s t : ℕ) (a : Option Answer) : Type 0 where
  pub only : (r : ℕ) → a ≡ Some (NoWay r) → Leads g F s t → ⊥
  pub no_way : (Leads g F s t → ⊥) → (r : ℕ) × (a ≡ Some (NoWay r))
  pub otherwise : Leads g F s t → (l : ℕ) × (r : ℕ) × (a ≡ Some (Length l r))

-- where call i asks an index s t, both on the map, its answer is no way exactly if no walk is open while the streets are closed that the calls before it have closed
abbrev pub NoWaysExact : Graph → List Call → List Answer → Type 0
NoWaysExact G cs rs = (i s t : ℕ) → slice_get cs i ≡ Some (Ask s t) → built_by (take i cs) ≡ true → OnMap G s → OnMap G t
    → NoWayExactly G.street (closed_by G (take i cs)) s t (slice_get rs i)

-- ---- equal answers
-- if the maps have equally many junctions and equal streets, each call is one that its state has, and the closes, reopens, asks and tallies are equal in equal order,
-- then so are the answers to these, apart from the redone counts
abbrev pub AnswersAgree : Graph → Graph → List Call → List Call → List Answer → List Answer → Type 0
AnswersAgree G H cs ds rs ss = Alike G H → Orderly cs → Orderly ds → telling cs ≡ telling ds → told cs rs ≡ told ds ss

-- ---- the whole
-- two lives, over the maps G and H with one kind of length: the calls cs with the answers rs, and ds with ss
pub record Promise (K : Kind) (G H : Graph) (cs ds : List Call) (rs ss : List Answer) : Type 0 where
  -- every call does and answers what is defined for it, at the moment that the calls before it lead to
  pub first : Life K G created cs rs
  pub second : Life K H created ds ss
  -- a length answered is the length of some walk that is open at that moment, and no worse than that of every other such walk
  pub lengths : LengthsBest K G cs rs × LengthsBest K H ds ss
  -- no way is answered exactly if there is no such walk, and otherwise a length, for any start and target on the map
  pub no_ways : NoWaysExact G cs rs × NoWaysExact H ds ss
  -- equal closes, reopens, asks and tallies over maps that are alike get equal answers, apart from redone
  pub agree : AnswersAgree G H cs ds rs ss
