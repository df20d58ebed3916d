-- Document 01, "What the proofs have to say": "The modular facts on time are proved once for all moduli."
use Rattle.std.specs.Prelude.{◌≡◌, ℕ, ◌+◌, ◌%◌, ◌<◌, ◌≤◌}
use Rattle.clock.specs.Modulus.{minus_mod}

-- counting around a turn of m
pub record Around (m : ℕ) : Type 0 where
  -- the difference is below the turn
  pub below : (a b : ℕ) → 0 < m → minus_mod m a b < m
  -- forward from b by the difference is a
  pub back : (a b : ℕ) → b ≤ m → (minus_mod m a b + b) % m ≡ a % m
  -- and nothing else below the turn leads there
  pub only : (a b r : ℕ) → b ≤ m → r < m → (r + b) % m ≡ a % m → r ≡ minus_mod m a b
  -- forward from a to a is 0
  pub self : (a : ℕ) → a ≤ m → minus_mod m a a ≡ 0
  -- there and back is a whole turn
  pub whole : (a b : ℕ) → a ≤ m → b ≤ m → (minus_mod m a b + minus_mod m b a) % m ≡ 0

-- w is a − b wrapped at `wrap`
abbrev pub Wraps : ℕ → ℕ → ℕ → ℕ → Type 0
Wraps wrap a b w = (w + b) % wrap ≡ a % wrap

-- every wrapped difference of two numbers below the turn may be reduced
abbrev pub Reducible : ℕ → ℕ → Type 0
Reducible m wrap = (a b w : ℕ) → a < m → b < m → w < wrap → Wraps wrap a b w → w % m ≡ minus_mod m a b

-- a subtraction that wraps may be reduced by m exactly where m divides the wrap
pub record Wrapped (m wrap : ℕ) : Type 0 where
  -- it may be reduced where m divides the wrap
  pub reduces : (a b w : ℕ) → 0 < m → wrap % m ≡ 0 → b ≤ m → Wraps wrap a b w → w % m ≡ minus_mod m a b
  -- and where it may be, m divides the wrap
  pub divides : 1 < m → m ≤ wrap → Reducible m wrap → wrap % m ≡ 0
