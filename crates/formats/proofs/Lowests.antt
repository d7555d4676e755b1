-- Laws of the lowest number that has a property.
use Rattle.std.proofs.Common.{◌≡◌, ℕ, Some, None, Option, refl, ap, arith}
use native.Mathlib.Decide.{dec_lt}
use Rattle.maps.specs.Graph.{Lowest, Here}

pub here_map : (P Q : ℕ → Type 0) (r : Option ℕ) → ((k : ℕ) → P k → Q k) → Here P r → Here Q r
here_map P Q None f h = tt
here_map P Q (Some e) f h = f e h

-- equivalent properties have the same lowest number
pub lowest_map : {P Q : ℕ → Type 0} {a : ℕ} {r : Option ℕ} → ((k : ℕ) → P k → Q k) → ((k : ℕ) → Q k → P k) → Lowest P a r → Lowest Q a r
lowest_map {P} {Q} {a} {r} f b h = record { above = h.above; here = here_map P Q r f h.here; gap = λ k l m q. h.gap k l m (b k q) }

-- there is one lowest number
pub lowest_unique : (P : ℕ → Type 0) (a : ℕ) (r s : Option ℕ) → Lowest P a r → Lowest P a s → r ≡ s
lowest_unique P a None None h k = refl
lowest_unique P a None (Some e) h k = absurd (h.gap e k.above tt k.here)
lowest_unique P a (Some d) None h k = absurd (k.gap d h.above tt h.here)
lowest_unique P a (Some d) (Some e) h k =
    elim (dec_lt d e) [
      | yes l ↦ absurd (k.gap d h.above l h.here)
      | no p ↦ elim (dec_lt e d) [
        | yes l ↦ absurd (h.gap e k.above l k.here)
        | no q ↦ let same : d ≡ e = omega arith in ap Some same
      ]
    ]
