-- The solved examples of runs: trees and best open lengths, worked out.
use Rattle.std.specs.Prelude.{◌≡◌, ℕ, zero, suc, true, List, [], ◌∷◌, length, Some, None}
use Rattle.maps.specs.Graph.{Street, Graph}
use Rattle.lengths.specs.Kinds.{paces, gates}
use Rattle.walks.specs.Streets.{Streets, member}
use Rattle.walks.specs.Runs.{Table, best_length}
use Rattle.walks.specs.Trees.{Tells, tree, Holds, affected_up_to}

-- the streets of a list, from slot 1 on
abbrev pub listed : List Street → Streets
listed [] e = None
listed (x ∷ xs) zero = None
listed (x ∷ xs) (suc zero) = Some x
listed (x ∷ xs) (suc (suc e)) = listed xs (suc e)

-- a map with n junctions and the streets of a list
abbrev pub drawn : ℕ → List Street → Graph
drawn n es = record { junctions = n; slots = length es; street = listed es }

-- four junctions and five streets
abbrev pub four_junctions : Graph
four_junctions = drawn 4 ((1, 2, 3) ∷ (2, 4, 4) ∷ (1, 3, 5) ∷ (3, 4, 5) ∷ (4, 1, 1) ∷ [])

-- two ways of equal length from 1 to 4
abbrev pub diamond : Graph
diamond = drawn 4 ((1, 2, 1) ∷ (1, 3, 1) ∷ (2, 4, 1) ∷ (3, 4, 1) ∷ [])

-- the tree of junction 2 of the first map, and that of junction 1 of the diamond, in paces
abbrev pub tree_of2 : Table
tree_of2 = tree paces four_junctions (2 ∷ []) 2

abbrev pub tree_of1 : Table
tree_of1 = tree paces diamond (1 ∷ []) 1

pub record Solved : Type 0 where
  -- the tree of 2 holds slots 2, 5 and 3 and no other: junction 4 by slot 2, junction 1 by slot 5, junction 3 by slot 3
  pub slots_2 : (e : ℕ) → Tells (member (2 ∷ 5 ∷ 3 ∷ []) e) (Holds tree_of2 e)
  pub at_4 : tree_of2 4 ≡ Some (2, 4)
  pub at_1 : tree_of2 1 ≡ Some (5, 5)
  pub at_3 : tree_of2 3 ≡ Some (3, 10)
  pub at_2 : tree_of2 2 ≡ Some (0, 0)
  -- in the diamond the tree of 1 settles 4 by slot 3, the lower of two slots of equal length
  pub slots_1 : (e : ℕ) → Tells (member (1 ∷ 2 ∷ 3 ∷ []) e) (Holds tree_of1 e)
  pub tie : tree_of1 4 ≡ Some (3, 2)
  -- and closing street 3 affects it, though the best open length stays
  pub affects : affected_up_to (member (3 ∷ [])) tree_of1 4 ≡ true
  pub survives : best_length paces diamond (member (3 ∷ [])) 1 4 ≡ Some 2
  -- best open lengths, by the streets that are closed
  pub all_open : best_length paces four_junctions (member []) 1 4 ≡ Some 7
  pub closed_2 : best_length paces four_junctions (member (2 ∷ [])) 1 4 ≡ Some 10
  pub no_way : best_length paces four_junctions (member (2 ∷ 4 ∷ [])) 1 4 ≡ None
  pub to_itself : best_length paces four_junctions (member (2 ∷ 4 ∷ [])) 3 3 ≡ Some 0
  pub closed_4 : best_length paces four_junctions (member (4 ∷ [])) 1 4 ≡ Some 7
  pub widest : best_length gates four_junctions (member []) 1 4 ≡ Some 5
  pub widest_zero : best_length gates four_junctions (member []) 1 1 ≡ Some 18446744073709551615
