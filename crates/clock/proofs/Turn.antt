-- The facts of any modulus, with the one that wraps at 2^64 computed at each turn.
-- Assumes nothing.
use Rattle.std.proofs.Common.{ℕ, ◌%◌, ◌^◌, refl, ◌∙◌, mod-eq_of_lt, arith, lit<, lit≤}
use borrow.Author.Tests.{eqb-false}
use Rattle.clock.specs.Range.{stamp_turn, reference_turn}
use Rattle.clock.specs.Claims.Turn.{InTurn, Turns}
use Rattle.clock.proofs.Modulus.{around, wrapped}

-- in range is at most the turn
pub in_turn : (turn : ℕ) → InTurn turn
in_turn turn =
    record {
      back = λ a b h l. (around turn).back a b (omega arith) ∙ mod-eq_of_lt h;
      self = λ a h. (around turn).self a (omega arith);
    }

pub turns : Turns
turns =
    record {
      stamps = in_turn stamp_turn;
      references = in_turn reference_turn;
      stamps_wrap = λ a b w h. (wrapped stamp_turn (2 ^ 64)).reduces a b w (lit< tt) refl (omega arith);
      references_never_wrap = λ reduces.
          eqb-false (2 ^ 64 % reference_turn) 0 refl ((wrapped reference_turn (2 ^ 64)).divides (lit< tt) (lit≤ tt) reduces);
    }
