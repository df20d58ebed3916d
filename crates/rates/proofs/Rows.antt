-- Behind the record's row stand the two of the forward difference, which are the clock's own table, and then the others.
-- Assumes nothing.
use mathlib.Core.Path.{◌≡◌}
use mathlib.Core.Bool.{true, false}
use Prim.Native.Nat.{ℕ}
use Rattle.ground.specs.Answer.{refused, given}
use Rattle.ground.proofs.Judged.{given_by, goes_on, stays_refused}
use Rattle.clock.specs.Difference.{reference_forward_refusals, reference_forward}
use Rattle.rates.specs.Rate.{byte_rate, is_unordered, with_rate, ticks_of, rated}
use Rattle.rates.specs.Steps.{last_rows, rated_over}
use Rattle.std.specs.declared.option.Option.{Option}
use Rattle.rates.specs.declared.Rates.{Rates}

module _ (k : Option Rates) (bytes later earlier : ℕ) where
  abbrev ticks : ℕ
  ticks = ticks_of later earlier

  abbrev answer : Rates
  answer = with_rate k (byte_rate bytes ticks)

  -- a record that is in no order
  pub rated_unordered : is_unordered k ≡ true → rated k bytes later earlier ≡ refused 82
  rated_unordered e = rw e

  -- a difference that is refused
  pub rated_refused : (n : ℕ) → is_unordered k ≡ false → reference_forward later earlier ≡ refused n → rated k bytes later earlier ≡ refused n
  rated_refused n e f = rw e (stays_refused ticks answer (reference_forward_refusals later earlier) n f (last_rows bytes ticks))

  -- a difference that is told
  pub rated_told : (told : ℕ) → is_unordered k ≡ false → reference_forward later earlier ≡ given told → rated k bytes later earlier ≡ rated_over k bytes told
  rated_told told e f =
      let rows = reference_forward_refusals later earlier in
      rw (e, (given_by rows ticks told f).1) (goes_on ticks answer rows told f (last_rows bytes ticks))
