-- Each promise is an equation, which leaves one outcome.
-- Assumes nothing.
use mathlib.Core.List.{[], ◌∷◌}
use Prim.Native.Nat.{◌+◌, min}
use lib.ListN.{get_or}
use Rattle.ground.specs.Number.{number_of}
use Rattle.ground.proofs.Outcome.{determined}
use Rattle.octets.specs.Claims.{Claims}

pub claims : Claims
claims =
    record {
      reads_two = λ a b. determined (number_of (a ∷ b ∷ []));
      reads_three = λ a b c. determined (number_of (a ∷ b ∷ c ∷ []));
      reads_five = λ a b c d e. determined (number_of (a ∷ b ∷ c ∷ d ∷ e ∷ []));
      reads_six = λ a b c d e f. determined (number_of (a ∷ b ∷ c ∷ d ∷ e ∷ f ∷ []));
      reads_byte = λ bytes place. determined (get_or bytes place 0);
      gives_lesser = λ a b. determined (min a b);
      goes_further = λ place bytes end. determined (min (place + bytes) end);
    }
