-- Document 02, ticket 8; H.222.0 2.4.2.2, equation 2-5: the transport rate as a double, and the record of rates.
use Rattle.std.specs.Prelude.{Bool, false, not, cond, ◌&&◌, List, [], ◌∷◌, ℕ, ◌*◌, ltb, eqb, Float, None, Some}
use Rattle.std.specs.Float.{binary64}
use Rattle.std.specs.Float.Ieee.{round, lt, le}
use Rattle.ground.specs.Told.{told}
use Rattle.ground.specs.Answer.{Answer, refused, given}
use Rattle.ground.specs.Refusal.{Row, judge, ◌when◌}
use Rattle.clock.specs.Modulus.{minus_mod}
use Rattle.clock.specs.Range.{is_no_reference, reference_turn}
use Rattle.rates.specs.declared.Rates.{Rates}
use Rattle.std.specs.declared.option.Option.{Option}
use Rattle.std.specs.declared.result.Result.{Result}
use Rattle.ground.specs.declared.Refusal.{Refusal}

-- "bytes between them times 27,000,000, divided by the forward difference, both exact before the one division": the double nearest to that fraction
abbrev pub byte_rate : ℕ → ℕ → Float
byte_rate bytes ticks = round binary64 false (bytes * 27000000) ticks

-- "lowest ≤ latest ≤ highest", as doubles are compared: false where one of them is a NaN
abbrev pub is_ordered : Rates → Bool
is_ordered r = le r.lowest r.latest && le r.latest r.highest

-- "a given record in which lowest ≤ latest ≤ highest doesn't hold"
abbrev pub is_unordered : Option Rates → Bool
is_unordered None = false
is_unordered (Some r) = not (is_ordered r)

-- "an equal lowest or highest keeps its old bits": only a lower one takes the place of the lowest
abbrev pub lower : Float → Float → Float
lower new old = cond (lt new old) new old

-- and only a higher one that of the highest
abbrev pub higher : Float → Float → Float
higher new old = cond (lt old new) new old

-- "Keep lowest, latest and highest"; "The first rate comes with no record and fills all three"
abbrev pub with_rate : Option Rates → Float → Rates
with_rate None rate = record { lowest = rate; latest = rate; highest = rate }
with_rate (Some r) rate = record { lowest = lower rate r.lowest; latest = rate; highest = higher rate r.highest }

-- what the call says in document 02's terms
abbrev pub told_rates : Result Rates Refusal → Answer Rates
told_rates = told (λ r. r)

-- "the forward difference"
abbrev pub ticks_of : ℕ → ℕ → ℕ
ticks_of later earlier = minus_mod reference_turn later earlier

-- "more than 333,599,972 bytes": times 27,000,000 they would be more than 2^53, up to which every whole number is a double
abbrev pub is_too_many : ℕ → Bool
is_too_many bytes = ltb 333599972 bytes

-- "Refusals, in order: 82 .., 40 a reference out of range, 80 more than 333,599,972 bytes, 81 difference 0"
abbrev pub rate_refusals : Option Rates → ℕ → ℕ → ℕ → List Row
rate_refusals k bytes later earlier =
    (82 when is_unordered k)
    ∷ (40 when is_no_reference later)
    ∷ (40 when is_no_reference earlier)
    ∷ (80 when is_too_many bytes)
    ∷ (81 when eqb (ticks_of later earlier) 0)
    ∷ []

-- the record with the rate, or a refusal: "gives its number alone"
abbrev pub rated : Option Rates → ℕ → ℕ → ℕ → Answer Rates
rated k bytes later earlier =
    judge refused (rate_refusals k bytes later earlier) (given (with_rate k (byte_rate bytes (ticks_of later earlier))))
