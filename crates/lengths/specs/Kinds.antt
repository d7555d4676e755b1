-- What a kind of length means: its zero, the join of two codes, and when one code is no worse than another.
use Rattle.std.specs.Prelude.{◌≡◌, ℕ, ◌+◌, ◌-◌, ◌^◌, ◌<◌, min, Bool, true, false, nat_le}

-- a length is stored as a code, a whole number below 2^64
abbrev pub Code : ℕ → Type 0
Code a = a < 2 ^ 64

-- a kind of length; no_worse is a test, so that what is defined by it computes
pub record Kind : Type 0 where
  pub zero : ℕ
  pub join : ℕ → ℕ → ℕ
  pub no_worse : ℕ → ℕ → Bool

-- the laws that every kind shows, for all codes
pub record LawfulKind (K : Kind) : Type 0 where
  pub zero_code : Code K.zero
  pub join_code : (a b : ℕ) → Code a → Code b → Code (K.join a b)
  pub assoc : (a b c : ℕ) → Code a → Code b → Code c → K.join (K.join a b) c ≡ K.join a (K.join b c)
  pub comm : (a b : ℕ) → Code a → Code b → K.join a b ≡ K.join b a
  pub unit : (a : ℕ) → Code a → K.join a K.zero ≡ a
  pub total : (a b : ℕ) → Code a → Code b → K.no_worse a b ≡ false → K.no_worse b a ≡ true
  pub anti : (a b : ℕ) → Code a → Code b → K.no_worse a b ≡ true → K.no_worse b a ≡ true → a ≡ b
  pub trans : (a b c : ℕ) → Code a → Code b → Code c → K.no_worse a b ≡ true → K.no_worse b c ≡ true → K.no_worse a c ≡ true
  pub grow : (a b : ℕ) → Code a → Code b → K.no_worse a (K.join a b) ≡ true
  pub mono : (a b c : ℕ) → Code a → Code b → Code c → K.no_worse a b ≡ true → K.no_worse (K.join a c) (K.join b c) ≡ true

-- paces add up, to 2^64 - 1 at most; fewer are better
abbrev pub paces : Kind
paces = record { zero = 0; join = λ a b. min (a + b) (2 ^ 64 - 1); no_worse = nat_le }

-- a way is as wide as its narrowest gate; wider is better
abbrev pub gates : Kind
gates = record { zero = 2 ^ 64 - 1; join = min; no_worse = λ a b. nat_le b a }
