-- Rates and records by their bits.
use Rattle.std.specs.Prelude.{None, Some, ◌≡◌, List, [], ◌∷◌, ℕ}
use Rattle.std.specs.Float.{binary64}
use Rattle.std.specs.Float.Ieee.{to_bits, of_bits}
use Rattle.ground.specs.Answer.{refused, given}
use Rattle.ground.specs.Walk.{Every}
use Rattle.rates.specs.Rate.{byte_rate, rated}
use Rattle.rates.specs.declared.Rates.{Rates}
use Rattle.std.specs.declared.option.Option.{Option}

-- so many bytes in so many ticks have the rate of these bits
pub record Example : Type 0 where
  pub bytes : ℕ
  pub ticks : ℕ
  pub bits : ℕ

infix 20 ◌per◌is◌
abbrev pub ◌per◌is◌ : ℕ → ℕ → ℕ → Example
bytes per ticks is bits = record { bytes = bytes; ticks = ticks; bits = bits }

abbrev pub rate_examples : List Example
rate_examples =
    (188 per 1 is 0x41F2E8D9D0000000)
    ∷ (188 per 1000000 is 0x40B3D40000000000)
    ∷ (188 per 2000000 is 0x40A3D40000000000)
    ∷ (333599972 per 1 is 0x433FFFFFFF5C1B00)
    ∷ (333599972 per 7 is 0x4312492491EB7D25)
    ∷ (333599972 per 2576980377599 is 0x40AB4E81B45C4BA7)
    ∷ (1 per 2576980377599 is 0x3EE5F90000000960)
    ∷ (3 per 27000001 is 0x4007FFFFF116405E)
    ∷ (0 per 1 is 0)
    ∷ []

-- a record by its bits: lowest, latest, highest
abbrev pub rates_of : ℕ → ℕ → ℕ → Rates
rates_of a b c = record { lowest = of_bits binary64 a; latest = of_bits binary64 b; highest = of_bits binary64 c }

abbrev pub record_of : ℕ → ℕ → ℕ → Option Rates
record_of a b c = Some (rates_of a b c)

-- (0, NaN, ∞)
abbrev pub with_nan : Option Rates
with_nan = record_of 0 0x7FF8000000000000 0x7FF0000000000000

pub record Examples : Type 0 where
  pub rates : Every (λ (x : Example). to_bits binary64 (byte_rate x.bytes x.ticks) ≡ x.bits) rate_examples
  -- "The first rate comes with no record and fills all three"; and over the turn
  pub first : rated None 188 0 2576980377599 ≡ given (rates_of 0x41F2E8D9D0000000 0x41F2E8D9D0000000 0x41F2E8D9D0000000)
  -- a lower one
  pub lowered : rated (record_of 0x40B3D40000000000 0x40B3D40000000000 0x40B3D40000000000) 188 2000000 0
      ≡ given (rates_of 0x40A3D40000000000 0x40A3D40000000000 0x40B3D40000000000)
  -- (−0, 0, 1) keeps −0 beside a rate of 0, and (−∞, 0, ∞) keeps both ends
  pub zero_kept : rated (record_of 0x8000000000000000 0 0x3FF0000000000000) 0 1 0 ≡ given (rates_of 0x8000000000000000 0 0x3FF0000000000000)
  pub ends_kept : rated (record_of 0xFFF0000000000000 0 0x7FF0000000000000) 188 1 0 ≡ given (rates_of 0xFFF0000000000000 0x41F2E8D9D0000000 0x7FF0000000000000)
  -- a highest of −0 keeps it too
  pub highest_kept : rated (record_of 0xFFF0000000000000 0x8000000000000000 0x8000000000000000) 0 1 0 ≡ given (rates_of 0xFFF0000000000000 0 0x8000000000000000)
  -- a NaN is in no order, whatever else is wrong: the refusals in their order
  pub nan_refused : rated with_nan 333599973 2576980377600 2576980377600 ≡ refused 82
  pub range_refused : rated None 333599973 2576980377600 2576980377600 ≡ refused 40
  pub bytes_refused : rated None 333599973 1 1 ≡ refused 80
  pub equal_refused : rated None 5 1 1 ≡ refused 81
