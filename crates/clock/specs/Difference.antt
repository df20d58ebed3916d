-- Document 01, "Time": the signed stamp difference and the forward reference difference.
use Rattle.std.specs.Prelude.{ℕ, ◌+◌, ◌^◌, List, [], ◌∷◌, ℤ, pos, ◌-ℤ◌}
use Rattle.ground.specs.Answer.{Answer, refused, given}
use Rattle.ground.specs.Refusal.{Row, judge, ◌when◌}
use Rattle.clock.specs.Modulus.{minus_mod}
use Rattle.clock.specs.Range.{is_no_stamp, is_no_reference, stamp_turn, reference_turn}
use Rattle.std.specs.declared.result.Result.{Result}
use Rattle.ground.specs.Told.{told}
use Rattle.ground.specs.declared.Refusal.{Refusal}

-- what a signed difference says in document 01's terms
abbrev pub told_signed : Result ℤ Refusal → Answer ℤ
told_signed = told (λ d. d)

-- the same of a forward difference
abbrev pub told_forward : Result ℕ Refusal → Answer ℕ
told_forward = told (λ d. d)

-- "A difference: 40", of two stamps
abbrev pub stamp_difference_refusals : ℕ → ℕ → List Row
stamp_difference_refusals a b = (40 when is_no_stamp a) ∷ (40 when is_no_stamp b) ∷ []

-- "Signed stamp difference a − b: ((a − b + 2^32) mod 2^33) − 2^32"
abbrev pub stamp_difference : ℕ → ℕ → Answer ℤ
stamp_difference a b =
    judge refused (stamp_difference_refusals a b) (given (pos (minus_mod stamp_turn (a + 2 ^ 32) b) -ℤ pos (2 ^ 32)))

-- "A difference: 40", of two clock references
abbrev pub reference_forward_refusals : ℕ → ℕ → List Row
reference_forward_refusals a b = (40 when is_no_reference a) ∷ (40 when is_no_reference b) ∷ []

-- "Forward reference difference: (a − b) mod 300·2^33"
abbrev pub reference_forward : ℕ → ℕ → Answer ℕ
reference_forward a b = judge refused (reference_forward_refusals a b) (given (minus_mod reference_turn a b))
