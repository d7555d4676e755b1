-- A table of legs as streets: which slot has which leg.
use Rattle.std.proofs.Common.{◌≡◌, ℕ, ◌+◌, ◌*◌, ◌/◌, ◌%◌, ◌<◌, Some, None, Option, refl, arith}
use Rattle.maps.specs.Graph.{Street}
use Rattle.walks.specs.Legs.{Legs, grid_at, grid}
use Rattle.walks.proofs.Facts.{none≢some, same_some}

pub grid_is : (D : Legs) (e : ℕ) (a : Street) → grid D e ≡ Some a → D a.0 a.1 ≡ Some a.2
grid_is D e a = go (D (e / 32) (e % 32)) refl
  where
    go : (o : Option ℕ) → D (e / 32) (e % 32) ≡ o → grid_at (e / 32) (e % 32) o ≡ Some a → D a.0 a.1 ≡ Some a.2
    go None q s = absurd (none≢some refl s)
    go (Some l) q s = let i : (e / 32, e % 32, l) ≡ a = same_some refl s in rw (← i) q

pub grid_made : (D : Legs) (i j l : ℕ) → j < 32 → D i j ≡ Some l → grid D (i * 32 + j) ≡ Some (i, j, l)
grid_made D i j l h q =
    let x : (i * 32 + j) / 32 ≡ i = omega arith in
    let y : (i * 32 + j) % 32 ≡ j = omega arith in
    rw (x, y, q)
