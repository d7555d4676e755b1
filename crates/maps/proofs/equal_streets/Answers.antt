use Rattle.std.proofs.Common.{◌≡◌, ℕ, zero, suc, ◌≤◌, Bool, true, false, Decides, MatchBool, refl, sym, ◌∙◌, arith, rules, tests}
use native.Mathlib.Decide.{dec_le}
use Rattle.std.specs.Range.{range_inclusive_end}
use Rattle.std.proofs.lemmas.Bool.{false≢true}
use Rattle.maps.specs.Graph.{Graph, EqualStreets, LawfulMap}
use Rattle.maps.proofs.Spans.{all_over}
use Rattle.maps.proofs.equal_streets.Goals as goal

-- streets that are equal in each slot that one of the maps has are equal everywhere
module _ (G H : Graph) (v : LawfulMap G) (w : LawfulMap H) (m : ℕ) (a : G.slots ≤ m) (b : H.slots ≤ m) where
  everywhere : ((k : ℕ) → 1 ≤ k → k ≤ m → G.street k ≡ H.street k) → EqualStreets G H
  everywhere h zero = v.no_zero ∙ sym w.no_zero
  everywhere h (suc e) =
      elim (dec_le (suc e) m) [ yes l ↦ h (suc e) (omega arith) l | no l ↦ v.no_more (suc e) (omega arith) ∙ sym (w.no_more (suc e) (omega arith)) ]

  decided : (r : Bool) → MatchBool r ((k : ℕ) → 1 ≤ k → k ≤ m → G.street k ≡ H.street k) ((k : ℕ) × (G.street k ≡ H.street k → ⊥)) → Decides r (EqualStreets G H)
  decided true h = (λ _. everywhere h, λ _. refl)
  decided false h = (λ e. absurd (false≢true e), λ same. absurd (h.1 (same h.0)))

pub returns : goal.returns
returns g c =
    let G = g.M.Map.graph c.args.a.now in
    let H = g.N.Map.graph c.args.b.now in
    let e = c.new.ensures in
    let last = range_inclusive_end c.new.result in
    decided G H (g.M.Map.lawful c.args.a.now) (g.N.Map.lawful c.args.b.now) last (omega arith) (omega arith) c.all.result
    (all_over c.new.result 1 last e.start refl e.exhausted _ _ _ (λ k. G.street k ≡ H.street k) (λ k. G.street k ≡ H.street k → ⊥) c.all.ensures.ran (λ x q k. search (rules, tests)) (λ x q k. search (rules, tests)))
