-- Each by computation.
-- Assumes nothing.
use mathlib.Core.Path.{refl}
use lib.Ieee.{to_bits, of_bits, round, lt, le}
use Rattle.rates.specs.Examples.{Examples}

pub examples : Examples
unfolding to_bits of_bits round lt le
examples =
    record {
      rates = (refl, (refl, (refl, (refl, (refl, (refl, (refl, (refl, (refl, tt)))))))));
      first = refl;
      lowered = refl;
      zero_kept = refl;
      ends_kept = refl;
      highest_kept = refl;
      nan_refused = refl;
      range_refused = refl;
      bytes_refused = refl;
      equal_refused = refl;
    }
