-- How doubles are ordered, by cases of NaN, infinity and number; of two numbers by their sizes over one denominator.
-- Assumes nothing.
use mathlib.Core.Path.{◌≡◌, refl, sym, ◌∙◌}
use mathlib.Core.Bool.{Bool, true, false, false≢true}
use Prim.Native.Nat.{ℕ, ◌*◌}
use native.Mathlib.Nat.{mul_right_comm}
use lib.Dec.{T}
use lib.IntN.{ℤ}
use lib.Ieee.{Float, nan, inf, fin, up, down, lt, eq, le, is_nan}
use lib.Ieee.Fits.{down_pos}
use lib.Ieee.Scale.{finite}
use Rattle.rates.proofs.Signs.{IsBelow, below_is, is_below, below_through, scaled_up, scaled_down, most_other, never_both}

-- ---- none but a NaN is out of order
-- of two that are no NaN, where the one is not below the other, the other is at most the one
pub not_lt_le : (x y : Float) → is_nan x ≡ false → is_nan y ≡ false → lt x y ≡ false → le y x ≡ true
unfolding is_nan lt eq le
not_lt_le nan y p q e = absurd (false≢true (sym p))
not_lt_le (inf s) nan p q e = absurd (false≢true (sym q))
not_lt_le (inf true) (inf true) p q e = refl
not_lt_le (inf true) (inf false) p q e = absurd (false≢true (sym e))
not_lt_le (inf false) (inf true) p q e = refl
not_lt_le (inf false) (inf false) p q e = refl
not_lt_le (inf s) (fin t n d) p q e = rw e
not_lt_le (fin s m e) nan p q r = absurd (false≢true (sym q))
not_lt_le (fin s m e) (inf true) p q r = refl
not_lt_le (fin s m e) (inf false) p q r = absurd (false≢true (sym r))
not_lt_le (fin s m e) (fin t n d) p q r = most_other s t (m * up e * down d) (n * up d * down e) r

-- what is compared is no NaN
pub left_no_nan : (x y : Float) → le x y ≡ true → is_nan x ≡ false
unfolding is_nan lt eq le
left_no_nan nan y e = absurd (false≢true e)
left_no_nan (inf s) y e = refl
left_no_nan (fin s m d) y e = refl

pub right_no_nan : (x y : Float) → le x y ≡ true → is_nan y ≡ false
unfolding is_nan lt eq le
right_no_nan nan y e = absurd (false≢true e)
right_no_nan (inf s) nan e = absurd (false≢true e)
right_no_nan (inf s) (inf t) e = refl
right_no_nan (inf s) (fin t n d) e = refl
right_no_nan (fin s m d) nan e = absurd (false≢true e)
right_no_nan (fin s m d) (inf t) e = refl
right_no_nan (fin s m d) (fin t n g) e = refl

-- ---- strictly
-- what is below is at most
pub lt_le : (x y : Float) → lt x y ≡ true → le x y ≡ true
unfolding le
lt_le x y e = rw e

-- and is not at least
pub lt_not : (x y : Float) → lt x y ≡ true → le y x ≡ false
unfolding lt eq le
lt_not nan y e = absurd (false≢true e)
lt_not (inf s) nan e = absurd (false≢true e)
lt_not (inf true) (inf true) e = absurd (false≢true e)
lt_not (inf true) (inf false) e = refl
lt_not (inf false) (inf t) e = absurd (false≢true e)
lt_not (inf true) (fin t n d) e = refl
lt_not (inf false) (fin t n d) e = absurd (false≢true e)
lt_not (fin s m e) nan r = absurd (false≢true r)
lt_not (fin s m e) (inf true) r = absurd (false≢true r)
lt_not (fin s m e) (inf false) r = refl
lt_not (fin s m e) (fin t n d) r =
    let a = m * up e * down d in
    let b = n * up d * down e in
    never_both s t a b (below_is s t a b r)

-- nothing is below itself
pub lt_self : (x : Float) → lt x x ≡ true → ⊥
lt_self x e = false≢true (sym (lt_not x x e) ∙ lt_le x x e)

-- so what is no NaN is at most itself
pub le_self : (x : Float) → is_nan x ≡ false → le x x ≡ true
le_self x p = go (lt x x) refl
  where
    go : (b : Bool) → lt x x ≡ b → le x x ≡ true
    go true e = lt_le x x e
    go false e = not_lt_le x x p p e

-- what is at most another is not above it
pub le_not : (x y : Float) → le x y ≡ true → lt y x ≡ true → ⊥
le_not x y e f = false≢true (sym (lt_not y x f) ∙ e)

-- of three numbers, all over the product of their denominators
numbers_through : (s t u : Bool) (m n k : ℕ) (e d g : ℤ) → lt (fin s m e) (fin t n d) ≡ true → (lt (fin u k g) (fin t n d) ≡ true → ⊥)
    → lt (fin s m e) (fin u k g) ≡ true
unfolding lt
numbers_through s t u m n k e d g h f =
    let first = scaled_up (down g) (down_pos g) s t (m * up e * down d) (n * up d * down e) (below_is s t _ _ h) in
    let second : IsBelow u (k * up g * down e * down d) t (n * up d * down e * down g) → ⊥ = λ l. f
    (is_below u t (k * up g * down d) (n * up d * down g)
    (scaled_down (down e) u t _ _ (rw (mul_right_comm (k * up g) (down d) (down e), mul_right_comm (n * up d) (down g) (down e)) l))) in
    is_below s u (m * up e * down g) (k * up g * down e)
    (scaled_down (down d) s u _ _ (rw (mul_right_comm (m * up e) (down g) (down d)) (below_through s t u _ _ _ first second)))

-- x < y ≤ z
pub lt_through : (x y z : Float) → lt x y ≡ true → le y z ≡ true → lt x z ≡ true
unfolding lt eq le
lt_through nan y z e f = absurd (false≢true e)
lt_through (inf false) nan z e f = absurd (false≢true e)
lt_through (inf false) (inf t) z e f = absurd (false≢true e)
lt_through (inf false) (fin t n d) z e f = absurd (false≢true e)
lt_through (inf true) nan z e f = absurd (false≢true e)
lt_through (inf true) (inf t) nan e f = absurd (false≢true f)
lt_through (inf true) (inf true) (inf u) e f = absurd (false≢true e)
lt_through (inf true) (inf false) (inf true) e f = absurd (false≢true f)
lt_through (inf true) (inf false) (inf false) e f = refl
lt_through (inf true) (inf t) (fin u k g) e f = refl
lt_through (inf true) (fin t n d) nan e f = absurd (false≢true f)
lt_through (inf true) (fin t n d) (inf true) e f = absurd (false≢true f)
lt_through (inf true) (fin t n d) (inf false) e f = refl
lt_through (inf true) (fin t n d) (fin u k g) e f = refl
lt_through (fin s m e) nan z r f = absurd (false≢true r)
lt_through (fin s m e) (inf true) z r f = absurd (false≢true r)
lt_through (fin s m e) (inf false) nan r f = absurd (false≢true f)
lt_through (fin s m e) (inf false) (inf true) r f = absurd (false≢true f)
lt_through (fin s m e) (inf false) (inf false) r f = refl
lt_through (fin s m e) (inf false) (fin u k g) r f = absurd (false≢true f)
lt_through (fin s m e) (fin t n d) nan r f = absurd (false≢true f)
lt_through (fin s m e) (fin t n d) (inf true) r f = absurd (false≢true f)
lt_through (fin s m e) (fin t n d) (inf false) r f = refl
lt_through (fin s m e) (fin t n d) (fin u k g) r f = numbers_through s t u m n k e d g r (le_not (fin t n d) (fin u k g) f)

-- x ≤ y < z
pub le_through : (x y z : Float) → le x y ≡ true → lt y z ≡ true → lt x z ≡ true
le_through x y z e f = go (lt x z) refl
  where
    go : (b : Bool) → lt x z ≡ b → lt x z ≡ true
    go true g = g
    go false g =
        absurd (le_not x y e (lt_through y z x f (not_lt_le x z (left_no_nan x y e) (right_no_nan y z (lt_le y z f)) g)))

-- ---- what lies between two finite ones is finite
pub finite_between : (lo x hi : Float) → T (finite lo) → T (finite hi) → T (le lo x) → T (le x hi) → T (finite x)
unfolding lt eq le
finite_between nan x hi p q a b = absurd p
finite_between (inf s) x hi p q a b = absurd p
finite_between (fin s m e) x nan p q a b = absurd q
finite_between (fin s m e) x (inf t) p q a b = absurd q
finite_between (fin s m e) nan (fin t n d) p q a b = absurd a
finite_between (fin s m e) (inf true) (fin t n d) p q a b = absurd a
finite_between (fin s m e) (inf false) (fin t n d) p q a b = absurd b
finite_between (fin s m e) (fin u k g) (fin t n d) p q a b = tt
