-- Sums over 1 to n, and over rows and columns.
use Rattle.std.proofs.Common.{◌≡◌, ℕ, zero, suc, ◌+◌, ◌<◌, ◌≤◌, Bool, sym, refl, ap, ◌∙◌, ⊎_elim, arith}
use Rattle.walks.proofs.Facts.{le_more}
use Rattle.asks.specs.Held.{bit}
use Rattle.asks.specs.Reached.{passing}

-- f 1 + .. + f n
abbrev pub total : (ℕ → ℕ) → ℕ → ℕ
total f zero = 0
total f (suc n) = total f n + f (suc n)

pub total_same : (f h : ℕ → ℕ) (n : ℕ) → ((i : ℕ) → 0 < i → i ≤ n → f i ≡ h i) → total f n ≡ total h n
total_same f h zero p = refl
total_same f h (suc n) p = omega (arith, p (suc n) (omega arith) (omega arith), total_same f h n (λ i lo hi. p i lo (omega arith)))

pub total_none : (f : ℕ → ℕ) (n : ℕ) → ((i : ℕ) → 0 < i → i ≤ n → f i ≡ 0) → total f n ≡ 0
total_none f zero p = refl
total_none f (suc n) p = omega (arith, p (suc n) (omega arith) (omega arith), total_none f n (λ i lo hi. p i lo (omega arith)))

-- one place alone counts
pub total_one : (f : ℕ → ℕ) (n k : ℕ) → 0 < k → k ≤ n → ((i : ℕ) → 0 < i → i ≤ n → (i ≡ k → ⊥) → f i ≡ 0) → total f n ≡ f k
total_one f zero k lo hi p = absurd (omega arith)
total_one f (suc n) k lo hi p =
    ⊎_elim (λ j. omega (arith, p (suc n) (omega arith) (omega arith) (omega arith), total_one f n k lo j (λ i a b c. p i a (omega arith) c)))
    (λ (j : k ≡ suc n). let e = ap f j in omega (arith, total_none f n (λ i a b. p i a (omega arith) (omega arith)))) (le_more k n hi)

total_add : (f h : ℕ → ℕ) (n : ℕ) → total (λ i. f i + h i) n ≡ total f n + total h n
total_add f h zero = refl
total_add f h (suc n) = omega (arith, total_add f h n)

-- by rows or by columns
pub total_swap : (f : ℕ → ℕ → ℕ) (n m : ℕ) → total (λ i. total (f i) m) n ≡ total (λ j. total (λ i. f i j) n) m
total_swap f zero m = sym (total_none (λ j. 0) m (λ i lo hi. refl))
total_swap f (suc n) m =
    let a = total_swap f n m in
    let b = total_add (λ j. total (λ i. f i j) n) (f (suc n)) m in
    ap (λ (x : ℕ). x + total (f (suc n)) m) a ∙ sym b

pub total_passing : (q : ℕ → Bool) (n : ℕ) → passing q n ≡ total (λ e. bit (q e)) n
total_passing q zero = refl
total_passing q (suc n) = ap (λ (x : ℕ). x + bit (q (suc n))) (total_passing q n)
