-- The facts of any modulus at the two turns: a stamp's divides 2^64, a clock reference's does not.
use Rattle.std.specs.Prelude.{◌≡◌, ℕ, ◌+◌, ◌%◌, ◌^◌, ◌<◌}
use Rattle.clock.specs.Modulus.{minus_mod}
use Rattle.clock.specs.Range.{stamp_turn, reference_turn}
use Rattle.clock.specs.Claims.Modulus.{Wraps, Reducible}

-- of two clock values in range
pub record InTurn (turn : ℕ) : Type 0 where
  -- forward from b by the difference is a
  pub back : (a b : ℕ) → a < turn → b < turn → (minus_mod turn a b + b) % turn ≡ a
  -- forward from a to a is 0
  pub self : (a : ℕ) → a < turn → minus_mod turn a a ≡ 0

pub record Turns : Type 0 where
  -- two stamps
  pub stamps : InTurn stamp_turn
  -- two clock references
  pub references : InTurn reference_turn
  -- a subtraction that wraps at 2^64 may be reduced for stamps
  pub stamps_wrap : (a b w : ℕ) → b < stamp_turn → Wraps (2 ^ 64) a b w → w % stamp_turn ≡ minus_mod stamp_turn a b
  -- and not for clock references
  pub references_never_wrap : Reducible reference_turn (2 ^ 64) → ⊥
