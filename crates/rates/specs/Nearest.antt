-- Which double is the nearest to a fraction, in whole numbers alone: nothing here rounds.
use Rattle.std.specs.Prelude.{◌≡◌, Bool, true, false, ℕ, ◌+◌, ◌-◌, ◌*◌, ◌<◌, Float}
use Rattle.std.specs.Float.{nan, inf, fin, binary64}
use Rattle.std.specs.Float.Ieee.{up, down, eq, fits}
use Rattle.std.specs.Float.Ieee.Scale.{finite}

-- how far a lies from ±b, the sign being that of b
abbrev pub gap : ℕ → Bool → ℕ → ℕ
gap a true b = a + b
gap a false b = a - b + (b - a)

-- a finite double ±m·2^e lies |n / d − ±m·2^e| from the fraction n / d. Times d and `beneath`, which leaves no fraction, this is:
abbrev pub distance : ℕ → ℕ → Float → ℕ
distance n d nan = 0
distance n d (inf s) = 0
distance n d (fin s m e) = gap (n * down e) s (m * up e * d)

abbrev pub beneath : Float → ℕ
beneath nan = 1
beneath (inf s) = 1
beneath (fin s m e) = down e

-- x is the double nearest to n / d: every other finite one, as doubles are compared, lies further away
pub record NearestDouble (n d : ℕ) (x : Float) : Type 0 where
  pub double : fits binary64 x ≡ true
  pub number : finite x ≡ true
  pub nearest : (y : Float) → fits binary64 y ≡ true → finite y ≡ true → eq x y ≡ false → distance n d x * beneath y < distance n d y * beneath x
