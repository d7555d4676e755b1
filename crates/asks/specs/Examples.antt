-- Solved examples of counts, the inverted index and legs, worked out.
use Rattle.std.specs.Prelude.{◌≡◌, ℕ, Bool, true, List, [], ◌∷◌, Some, None}
use Rattle.lengths.specs.Kinds.{paces}
use Rattle.walks.specs.Streets.{member}
use Rattle.walks.specs.Runs.{best_length}
use Rattle.walks.specs.Legs.{Legs}
use Rattle.walks.specs.Examples.{four_junctions, tree_of1}
use Rattle.asks.specs.Held.{closed_held, is_affected, marked}
use Rattle.asks.specs.Index.{node_at, tree_at, positions}
use Rattle.asks.specs.Handed.{stored_legs, handed_legs, filled_legs}
use Rattle.asks.specs.Reached.{passing, is_redone}

-- on the map of four junctions 2 and 3 are transit nodes, and street 2 is closed
abbrev pub nodes : List ℕ
nodes = 2 ∷ 3 ∷ []

abbrev pub closed : ℕ → Bool
closed = member (2 ∷ [])

-- the legs that an ask from 1 to 4 hands on, and those of its first round, which has no row of an affected tree
abbrev pub handed : Legs
handed = handed_legs paces four_junctions nodes closed 1 4

abbrev pub first_round : Legs
first_round = filled_legs paces four_junctions nodes closed 1 4 (member [])

pub record Solved : Type 0 where
  -- the tree of 2 holds slots 2, 5 and 3, that of 3 holds 4, 5 and 1
  pub slot_5 : positions paces four_junctions nodes 5 ≡ 1 ∷ 2 ∷ []
  pub slot_2 : positions paces four_junctions nodes 2 ≡ 1 ∷ []
  pub slot_1 : positions paces four_junctions nodes 1 ≡ 2 ∷ []
  pub slot_6 : positions paces four_junctions nodes 6 ≡ []
  -- so their numbers are 1 and 0; closing street 5 raises both
  pub number_1 : closed_held closed (tree_at paces four_junctions nodes 1) 4 ≡ 1
  pub number_2 : closed_held closed (tree_at paces four_junctions nodes 2) 4 ≡ 0
  pub raised_1 : closed_held (marked closed 5 true) (tree_at paces four_junctions nodes 1) 4 ≡ 2
  pub raised_2 : closed_held (marked closed 5 true) (tree_at paces four_junctions nodes 2) 4 ≡ 1
  -- in the diamond closing street 3 affects the tree of 1, though every length stays
  pub survives : is_affected (member (3 ∷ [])) tree_of1 4 ≡ true
  -- the stored legs
  pub stored_1_2 : stored_legs paces four_junctions nodes 1 2 ≡ Some 10
  pub stored_2_1 : stored_legs paces four_junctions nodes 2 1 ≡ Some 9
  pub stored_1_1 : stored_legs paces four_junctions nodes 1 1 ≡ None
  -- the legs handed on: access, a leg worked out anew, a stored one, egress, and no direct length
  pub access_1 : handed 0 1 ≡ Some 3
  pub access_2 : handed 0 2 ≡ Some 5
  pub anew : handed 1 2 ≡ None
  pub as_stored : handed 2 1 ≡ Some 9
  pub egress_1 : handed 1 31 ≡ None
  pub egress_2 : handed 2 31 ≡ Some 5
  pub direct : handed 0 31 ≡ None
  -- with nothing closed the leg from 1 to 2 is present, but not in the first round of an ask with street 2 closed
  pub sound_leg : handed_legs paces four_junctions nodes (member []) 1 4 1 2 ≡ Some 10
  pub first_round_blank : first_round 1 2 ≡ None
  pub first_stored : first_round 2 1 ≡ Some 9
  -- one tree is redone for an ask from 1, and none for an ask from 4 once street 5 is closed too
  pub redone_1 : passing (is_redone paces four_junctions nodes closed (λ i. best_length paces four_junctions closed 1 (node_at nodes i))) 2 ≡ 1
  pub redone_4 : passing (is_redone paces four_junctions nodes (marked closed 5 true) (λ i. best_length paces four_junctions (marked closed 5 true) 4 (node_at nodes i))) 2 ≡ 0
