-- Steps through a chain of tests, each with the number that it gives.
use Rattle.std.proofs.Common.{◌≡◌, ℕ, ◌<◌, Bool, true, false, cond, not, eqb, Some, None, refl, ◌∙◌, arith}
use Rattle.std.proofs.lemmas.Bool.{eqb-true, eqb-false, eq-eqb, ne_eqb, not-true, not-false, not_from_true, not_from_false, cond-false}
use Rattle.maps.specs.Graph.{Street, Placed}

-- where the chain gives 0, its first test fails
pub past : (b : Bool) (k n : ℕ) → 0 < k → cond b k n ≡ 0 → (b ≡ false) × (n ≡ 0)
past true k n p h = absurd (omega arith)
past false k n p h = (refl, h)

-- where the first test fails, the chain gives what its rest gives
pub pass : (b : Bool) (x y z : ℕ) → b ≡ false → y ≡ z → cond b x y ≡ z
pass b x y z h e = cond-false b x y h ∙ e

-- the test that two numbers differ
pub unequal : (a b : ℕ) → not (eqb a b) ≡ true → a ≡ b → ⊥
unequal a b h = eqb-false a b (not-true _ h)

pub equal : (a b : ℕ) → not (eqb a b) ≡ false → a ≡ b
equal a b h = eqb-true a b (not-false _ h)

pub differ : (a b : ℕ) → (a ≡ b → ⊥) → not (eqb a b) ≡ true
differ a b h = not_from_false _ (ne_eqb a b h)

pub agree : (a b : ℕ) → a ≡ b → not (eqb a b) ≡ false
agree a b h = not_from_true _ (eq-eqb a b h)

-- a street that is there by a test is on the map if it is where the test passes
pub placed_if : (n : ℕ) (x : Street) (b : Bool) → (b ≡ true → Placed n (Some x)) → Placed n (cond b (Some x) None)
placed_if n x true h = h refl
placed_if n x false h = tt
