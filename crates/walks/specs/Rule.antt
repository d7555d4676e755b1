-- The rule of the bounded run: what a step looks at and takes, and when the run ends.
use Rattle.std.specs.Prelude.{◌≡◌, ℕ, zero, suc, ◌≤◌, Bool, true, false, ◌⊎◌, List, Some, None, ◌≢◌}
use Rattle.maps.specs.Graph.{Street, Graph}
use Rattle.lengths.specs.Kinds.{Kind}
use Rattle.walks.specs.Streets.{member}
use Rattle.walks.specs.Runs.{Entry, Table}

-- a step looks at street e: it is outside F, its tail is settled and is the root or not in the transit list, and its head v is unsettled;
-- l is its tail's length joined with its own
pub record LooksAt (K : Kind) (G : Graph) (ns : List ℕ) (F : ℕ → Bool) (r : ℕ) (T : Table) (e v l : ℕ) : Type 0 where
  pub street : Street
  pub tail : Entry
  pub present : G.street e ≡ Some street
  pub outside : F e ≡ false
  pub settled : T street.0 ≡ Some tail
  pub leaves : (street.0 ≡ r) ⊎ (member ns street.0 ≡ false)
  pub head : street.1 ≡ v
  pub unsettled : T v ≡ None
  pub joined : K.join tail.1 street.2 ≡ l

-- first the root is settled, with slot 0 and length zero, and nothing else
pub record First (K : Kind) (r : ℕ) (T : Table) : Type 0 where
  pub root : T r ≡ Some (0, K.zero)
  pub others : (v : ℕ) → (v ≢ r) → T v ≡ None

-- a step takes the best street that it looks at, ties to the lowest slot; its head is settled with that slot and length, and nothing else changes
pub record Step (K : Kind) (G : Graph) (ns : List ℕ) (F : ℕ → Bool) (r : ℕ) (T U : Table) : Type 0 where
  pub slot : ℕ
  pub head : ℕ
  pub total : ℕ
  pub taken : LooksAt K G ns F r T slot head total
  pub best : (e v l : ℕ) → LooksAt K G ns F r T e v l → K.no_worse total l ≡ true
  pub lowest : (e v : ℕ) → LooksAt K G ns F r T e v total → slot ≤ e
  pub settles : U head ≡ Some (slot, total)
  pub others : (v : ℕ) → (v ≢ head) → U v ≡ T v

-- no street is left that a step would look at
abbrev pub Ended : Kind → Graph → List ℕ → (ℕ → Bool) → ℕ → Table → Type 0
Ended K G ns F r T = (e v l : ℕ) → LooksAt K G ns F r T e v l → ⊥

-- k steps lead to T
abbrev pub Steps : Kind → Graph → List ℕ → (ℕ → Bool) → ℕ → ℕ → Table → Type 0
Steps K G ns F r zero T = First K r T
Steps K G ns F r (suc k) T = (S : Table) × Steps K G ns F r k S × Step K G ns F r S T

-- T is what the run by the rule ends with: some number of steps lead to it, and it has ended
abbrev pub RunByRule : Kind → Graph → List ℕ → (ℕ → Bool) → ℕ → Table → Type 0
RunByRule K G ns F r T = (k : ℕ) × Steps K G ns F r k T × Ended K G ns F r T
