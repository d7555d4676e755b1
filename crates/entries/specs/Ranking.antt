-- Entries are in a total order for all numbers, since a kind puts its codes in one.
use Rattle.std.specs.Prelude.{◌≡◌, ℕ, ◌^◌, ◌≤◌, true, ◌⊎◌, ◌≢◌, nat_le}
use Rattle.std.proofs.Common.{sym, ◌∙◌, inl, inr, ⊎_elim, arith}
use Rattle.std.proofs.lemmas.Bool.{cases_lt, cases_eq, cases_Bool, both_ways, lt-ltb, le-ltb, le-leb, leb-true}
use Rattle.lengths.specs.Kinds.{Kind, LawfulKind, Code}
use Rattle.entries.specs.Orders.{ranked, Keyed}

module _ (K : Kind) where
  pub both_codes : (a b : ℕ) → Code a → Code b → ranked K a b ≡ K.no_worse a b
  both_codes a b p q = rw (lt-ltb a (2 ^ 64) p, lt-ltb b (2 ^ 64) q)

  code_first : (a b : ℕ) → Code a → 2 ^ 64 ≤ b → ranked K a b ≡ true
  code_first a b p q = rw (lt-ltb a (2 ^ 64) p, le-ltb b (2 ^ 64) q)

  code_last : (a b : ℕ) → 2 ^ 64 ≤ a → Code b → ranked K a b ≢ true
  code_last a b p q t = both_ways (ranked K a b) (rw (le-ltb a (2 ^ 64) p, lt-ltb b (2 ^ 64) q)) t

  no_codes : (a b : ℕ) → 2 ^ 64 ≤ a → 2 ^ 64 ≤ b → ranked K a b ≡ nat_le a b
  no_codes a b p q = rw (le-ltb a (2 ^ 64) p, le-ltb b (2 ^ 64) q)

module _ (K : Kind) (law : LawfulKind K) where
  total : (a b : ℕ) → (ranked K a b ≡ true) ⊎ (ranked K b a ≡ true)
  total a b =
      ⊎_elim
      (λ p. ⊎_elim
      (λ q. ⊎_elim (λ t. inl (both_codes K a b p q ∙ t)) (λ t. inr (both_codes K b a q p ∙ law.total a b p q t)) (cases_Bool (K.no_worse a b)))
      (λ q. inl (code_first K a b p q)) (cases_lt b (2 ^ 64)))
      (λ p. ⊎_elim
      (λ q. inr (code_first K b a q p))
      (λ q. ⊎_elim (λ l. inl (no_codes K a b p q ∙ le-leb a b (omega arith))) (λ l. inr (no_codes K b a q p ∙ le-leb b a l)) (cases_lt a b)) (cases_lt b (2 ^ 64)))
      (cases_lt a (2 ^ 64))

  anti : (a b : ℕ) → ranked K a b ≡ true → ranked K b a ≡ true → a ≡ b
  anti a b x y =
      ⊎_elim
      (λ p. ⊎_elim
      (λ q. law.anti a b p q (sym (both_codes K a b p q) ∙ x) (sym (both_codes K b a q p) ∙ y))
      (λ q. absurd (code_last K b a q p y)) (cases_lt b (2 ^ 64)))
      (λ p. ⊎_elim
      (λ q. absurd (code_last K a b p q x))
      (λ q. let i = leb-true a b (sym (no_codes K a b p q) ∙ x) in let j = leb-true b a (sym (no_codes K b a q p) ∙ y) in omega arith) (cases_lt b (2 ^ 64)))
      (cases_lt a (2 ^ 64))

  trans : (a b c : ℕ) → ranked K a b ≡ true → ranked K b c ≡ true → ranked K a c ≡ true
  trans a b c x y =
      ⊎_elim
      (λ r. ⊎_elim
      (λ q. ⊎_elim
      (λ p. both_codes K a c p r ∙ law.trans a b c p q r (sym (both_codes K a b p q) ∙ x) (sym (both_codes K b c q r) ∙ y))
      (λ p. absurd (code_last K a b p q x)) (cases_lt a (2 ^ 64)))
      (λ q. absurd (code_last K b c q r y)) (cases_lt b (2 ^ 64)))
      (λ r. ⊎_elim (λ p. code_first K a c p r)
      (λ p. ⊎_elim (λ q. absurd (code_last K a b p q x))
      (λ q. let i = leb-true a b (sym (no_codes K a b p q) ∙ x) in let j = leb-true b c (sym (no_codes K b c q r) ∙ y) in no_codes K a c p r ∙ le-leb a c (omega arith)) (cases_lt b (2 ^ 64)))
      (cases_lt a (2 ^ 64)))
      (cases_lt c (2 ^ 64))

  pub ranked_self : (a : ℕ) → ranked K a a ≡ true
  ranked_self a = ⊎_elim (λ r. r) (λ r. r) (total a a)

module _ {E : Type 0} (K : Kind) (law : LawfulKind K) (len tie : E → ℕ) where
  pub keyed_total : (a b : E) → Keyed K len tie a b ⊎ Keyed K len tie b a
  keyed_total a b =
      ⊎_elim
      (λ (e : len a ≡ len b).
      ⊎_elim (λ l. inr (rw e (ranked_self K law (len b)), λ _. omega arith)) (λ l. inl (rw e (ranked_self K law (len b)), λ _. l)) (cases_lt (tie b) (tie a)))
      (λ n. ⊎_elim (λ r. inl (r, λ z. absurd (n z))) (λ r. inr (r, λ z. absurd (n (sym z)))) (total K law (len a) (len b)))
      (cases_eq (len a) (len b))

  pub keyed_chain : (a b c : E) → Keyed K len tie a b → Keyed K len tie b c → Keyed K len tie a c
  keyed_chain a b c p q = (
    trans K law (len a) (len b) (len c) p.0 q.0,
    λ e.
        let ab : len a ≡ len b = anti K law (len a) (len b) p.0 (rw e q.0) in
        let x = p.1 ab in
        let y = q.1 (sym ab ∙ e) in
        omega arith,
  )

  pub keyed_single : (a b : E) → Keyed K len tie a b → Keyed K len tie b a → (len a ≡ len b) × (tie a ≡ tie b)
  keyed_single a b p q =
      let l : len a ≡ len b = anti K law (len a) (len b) p.0 q.0 in
      let x = p.1 l in
      let y = q.1 (sym l) in
      (l, omega arith)
