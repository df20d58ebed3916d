-- Sizes with a sign are ordered as whole numbers are, with two zeros that are equal; a factor above 0 changes nothing of that.
-- Assumes nothing.
use mathlib.Core.Path.{◌≡◌, sym}
use mathlib.Core.Bool.{Bool, true, false, ◌&&◌, ◌||◌, false≢true}
use Prim.Native.Nat.{ℕ, ◌+◌, ◌*◌, ◌<◌}
use native.Mathlib.Nat.{add-mul, zero-mul, mul-pos, mul-lt-mul_of_pos_right, lt_of_mul-lt-mul_right}
use native.Mathlib.Decide.{dec_lt}
use native.Mathlib.Omega.{arith}
use borrow.Author.Tests.{lt-ltb, le-ltb, eq-eqb, ne_eqb, ltb-true, ltb-false}
use lib.Dec.{ltb, eqb}
use lib.Ieee.{below, level}
use Rattle.ground.proofs.Test.{and_false}

-- ±a < ±b
abbrev pub IsBelow : Bool → ℕ → Bool → ℕ → Type 0
IsBelow false a false b = a < b
IsBelow false a true b = ⊥
IsBelow true a false b = 0 < a + b
IsBelow true a true b = b < a

-- the library's test says this
pub below_is : (s t : Bool) (a b : ℕ) → below s a t b ≡ true → IsBelow s a t b
below_is false false a b e = ltb-true a b e
below_is false true a b e = absurd (false≢true e)
below_is true false a b e = ltb-true 0 (a + b) e
below_is true true a b e = ltb-true b a e

-- and is passed where it holds
pub is_below : (s t : Bool) (a b : ℕ) → IsBelow s a t b → below s a t b ≡ true
is_below false false a b h = lt-ltb a b h
is_below false true a b h = absurd h
is_below true false a b h = lt-ltb 0 (a + b) h
is_below true true a b h = lt-ltb b a h

-- ±a < ±b and not ±c < ±b: ±a < ±c
pub below_through : (s t u : Bool) (a b c : ℕ) → IsBelow s a t b → (IsBelow u c t b → ⊥) → IsBelow s a u c
below_through false false false a b c h g = omega arith
below_through false false true a b c h g = omega arith
below_through false true u a b c h g = absurd h
below_through true false false a b c h g = omega arith
below_through true false true a b c h g = omega arith
below_through true true false a b c h g = omega arith
below_through true true true a b c h g = omega arith

-- ---- a factor above 0
pub scaled_up : (k : ℕ) → 0 < k → (s t : Bool) (a b : ℕ) → IsBelow s a t b → IsBelow s (a * k) t (b * k)
scaled_up k p false false a b h = mul-lt-mul_of_pos_right h p
scaled_up k p false true a b h = absurd h
scaled_up k p true false a b h = rw (sym (add-mul a b k)) (mul-pos h p)
scaled_up k p true true a b h = mul-lt-mul_of_pos_right h p

pub scaled_down : (k : ℕ) (s t : Bool) (a b : ℕ) → IsBelow s (a * k) t (b * k) → IsBelow s a t b
scaled_down k false false a b h = lt_of_mul-lt-mul_right k h
scaled_down k false true a b h = absurd h
scaled_down k true false a b h = lt_of_mul-lt-mul_right k (rw (zero-mul k, add-mul a b k) h)
scaled_down k true true a b h = lt_of_mul-lt-mul_right k h

-- ---- at most: below, or equal
-- where ±a < ±b fails, ±b is at most ±a
pub most_other : (s t : Bool) (a b : ℕ) → below s a t b ≡ false → (below t b s a || level t b s a) ≡ true
most_other false false a b e = order (dec_lt b a)
  where
    order : Dec (b < a) → (ltb b a || (eqb b a && (true || eqb b 0))) ≡ true
    order (yes h) = rw (lt-ltb b a h)
    order (no h) = let g = ltb-false a b e in rw (le-ltb b a (omega arith), eq-eqb b a (omega arith))
most_other false true a b e = zero (dec_lt 0 (b + a))
  where
    zero : Dec (0 < b + a) → (ltb 0 (b + a) || (eqb b a && (false || eqb b 0))) ≡ true
    zero (yes h) = rw (lt-ltb 0 (b + a) h)
    zero (no h) = rw (le-ltb 0 (b + a) (omega arith), eq-eqb b a (omega arith), eq-eqb b 0 (omega arith))
most_other true false a b e = let g = ltb-false 0 (a + b) e in rw (eq-eqb b a (omega arith), eq-eqb b 0 (omega arith))
most_other true true a b e = order (dec_lt a b)
  where
    order : Dec (a < b) → (ltb a b || (eqb b a && (true || eqb b 0))) ≡ true
    order (yes h) = rw (lt-ltb a b h)
    order (no h) = let g = ltb-false b a e in rw (le-ltb a b (omega arith), eq-eqb b a (omega arith))

-- and where it holds, ±b is not
pub never_both : (s t : Bool) (a b : ℕ) → IsBelow s a t b → (below t b s a || level t b s a) ≡ false
never_both false false a b h = rw (le-ltb b a (omega arith), ne_eqb b a (omega arith))
never_both false true a b h = absurd h
never_both true false a b h = zero (dec_lt 0 b)
  where
    zero : Dec (0 < b) → (eqb b a && (false || eqb b 0)) ≡ false
    zero (yes g) = rw (ne_eqb b 0 (omega arith)) (and_false (eqb b a))
    zero (no g) = rw (ne_eqb b a (omega arith))
never_both true true a b h = rw (le-ltb a b (omega arith), ne_eqb b a (omega arith))
