-- What holds at every moment of every life.
use Rattle.std.specs.Prelude.{◌≡◌, ℕ, ◌≤◌, true, false, List, [], ◌∷◌, length, is_some}
use Rattle.std.specs.List.{AllByRecursion}
use Rattle.maps.specs.Graph.{Graph}
use Rattle.walks.specs.Streets.{member}
use Rattle.walks.specs.Trees.{OnMap}
use Rattle.calls.specs.Moments.{Moment}

-- no number stands in the list twice
abbrev pub Different : List ℕ → Type 0
Different [] = Unit {0}
Different (x ∷ xs) = (member xs x ≡ false) × Different xs

-- a moment that fits its map
pub record FitsMap (G : Graph) (m : Moment) : Type 0 where
  -- the transit list: at most 16 different junctions of the map
  pub few : length m.listed ≤ 16
  pub all_on_map : AllByRecursion (OnMap G) m.listed
  pub different : Different m.listed
  -- only streets of the map are closed
  pub streets : (e : ℕ) → m.closed e ≡ true → is_some (G.street e) ≡ true
  pub small : m.tally ≤ 65535
