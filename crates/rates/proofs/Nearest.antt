-- In units of the smallest double each is a number of 53 digits and then zeros, of those `round` keeps the nearest, and a fraction of numbers below 2^53 is no tie.
-- Assumes nothing.
use mathlib.Core.Path.{◌≡◌, sym, ◌∙◌, ap, ap₂}
use mathlib.Core.Bool.{Bool, true, false, ◌&&◌, true≢false, false≢true}
use mathlib.Core.Logic.{◌⊎◌, inl, inr}
use Prim.Native.Nat.{ℕ, zero, suc, ◌+◌, ◌-◌, ◌*◌, ◌/◌, ◌%◌, ◌^◌, ◌≤◌, ◌<◌, suc-le-suc}
use native.Mathlib.Nat.{lt_of_not-le, not-le_of_lt, mul-add, mul-sub, mul-pos, mul-le-mul_left, mul-le-mul_right, mul-lt-mul_of_pos_left, lt_of_mul-lt-mul_left, eq_of_mul-eq-mul_right}
use native.Mathlib.Omega.{arith}
use borrow.Author.Tests.{eq-eqb, ltb-true, leb-true}
use lib.Dec.{T, ltb, leb, eqb, lit≤}
use lib.IntN.{ℤ, pos, negsuc}
use lib.Pow.{pow-add, pow_pos, pow_mono, pow-lt}
use lib.Ieee.{Float, nan, inf, fin, Format, binary32, binary64, prec, emax, low, up, down, size, round, level, eq, fits}
use lib.Ieee.Digits.{back}
use lib.Ieee.Fits.{two, two-le_pos, down_pos, round-fits}
use lib.Ieee.Bits.{is_true}
use lib.Ieee.Exact.{HasValue}
use lib.Ieee.Back.{round_whole}
use lib.Ieee.Order.{round_mono}
use lib.Ieee.Scale.{grid, finite, round_val, round_under, normal_of_fraction}
use Rattle.ground.proofs.Test.{both_true}
use Rattle.rates.specs.Rate.{byte_rate}
use Rattle.rates.specs.Nearest.{gap, distance, beneath, NearestDouble}
use Rattle.rates.proofs.Doubles.{finite_between}
use Rattle.rates.proofs.Closest.{off, below_zero, Tie, within, others_further, no_tie}

-- ---- distances in units, of which c are 1
-- a distance times c
gap_times : (s : Bool) (c a b : ℕ) → c * gap a s b ≡ gap (c * a) s (c * b)
gap_times true c a b = mul-add c a b
gap_times false c a b = simp (mul-add, mul-sub)

-- the distance of x / e, which is g units
in_units : (s : Bool) (n d c x g e : ℕ) → x * c ≡ g * e → c * gap (n * e) s (x * d) ≡ e * gap (n * c) s (g * d)
in_units s n d c x g e v =
    let p : c * (n * e) ≡ e * (n * c) = omega arith in
    let q : c * (x * d) ≡ e * (g * d) = omega (arith, ap (λ (z : ℕ). z * d) v) in
    gap_times s c (n * e) (x * d) ∙ ap₂ (λ (i j : ℕ). gap i s j) p q ∙ sym (gap_times s e (n * c) (g * d))

-- x / a is g units and y / b is h units: the order of the units is that of the fractions
crosswise : (c a b x y g h : ℕ) → 0 < a → 0 < b → c * x ≡ a * g → c * y ≡ b * h → g < h → x * b < y * a
crosswise c a b x y g h k l p q r =
    lt_of_mul-lt-mul_left c (omega (arith, ap (λ (z : ℕ). z * b) p, ap (λ (z : ℕ). z * a) q, mul-lt-mul_of_pos_left r (mul-pos k l)))

-- both are g units: the fractions are equal
same : (c a b x y g : ℕ) → 0 < c → x * c ≡ g * a → y * c ≡ g * b → x * b ≡ y * a
same c a b x y g h p q = eq_of_mul-eq-mul_right c h (x * b) (y * a) (omega (arith, ap (λ (z : ℕ). z * b) p, ap (λ (z : ℕ). z * a) q))

-- ---- a double that fits
-- m · 2 ^ e in units, of which 2 ^ l are 1
shifted : (e : ℤ) (l m : ℕ) → down e ≤ 2 ^ l → (j : ℕ) × (m * up e * 2 ^ l ≡ m * 2 ^ j * down e)
shifted (pos k) l m h = (k + l, rw (pow-add 2 k l) (omega arith))
shifted (negsuc k) l m h =
    let g : suc k ≤ l = lt_of_not-le (λ (z : l ≤ k). not-le_of_lt (pow-lt (suc-le-suc z)) h) in
    let i : 2 ^ l ≡ 2 ^ (l - suc k) * 2 ^ suc k = ap (λ (z : ℕ). 2 ^ z) (sym (back l (suc k) g)) ∙ pow-add 2 (l - suc k) (suc k) in
    (l - suc k, omega (arith, ap (λ (z : ℕ). m * z) i))

-- it is a number of at most `prec` digits and then zeros, in units of the smallest one
parts : (f : Format) (s : Bool) (m : ℕ) (e : ℤ) → fits f (fin s m e) ≡ true → (j : ℕ) × (m < 2 ^ prec f) × (m * up e * 2 ^ low f ≡ m * 2 ^ j * down e)
unfolding fits
parts f s zero e h = (0, pow_pos (prec f), omega arith)
parts f s (suc m) e h =
    let front = eqb (suc m % 2) 1 && ltb (suc m) (2 ^ prec f) in
    let a = both_true (front && leb (down e) (2 ^ low f)) (ltb (suc m * up e) (2 ^ suc (emax f) * down e)) h in
    let b = both_true front (leb (down e) (2 ^ low f)) a.0 in
    let c = shifted e (low f) (suc m) (leb-true (down e) (2 ^ low f) b.1) in
    (c.0, ltb-true (suc m) (2 ^ prec f) (both_true (eqb (suc m % 2) 1) (ltb (suc m) (2 ^ prec f)) b.0).1, c.1)

-- ---- doubles beside the one that has the rounded value
-- what `eq` tells apart is not the same number, where it is no number below 0
differ : (t : Bool) (a p x y : ℕ) → level false a t (p * x * y) ≡ false → (t ≡ false) ⊎ (p ≡ 0) → a ≡ p * x * y → ⊥
differ false a p x y h k e = false≢true (sym h ∙ rw (eq-eqb a (p * x * y) e))
differ true a p x y h (inl k) e = true≢false k
differ true a p x y h (inr k) e = false≢true (sym h ∙ rw (eq-eqb a (p * x * y) e, eq-eqb a 0 (omega (arith, ap (λ (z : ℕ). z * x * y) k))))

-- each that `eq` tells apart from it is further away
further : (f : Format) (n d : ℕ) → 0 < d → (Tie (prec f) (n * 2 ^ low f) d → ⊥) → (x y : Float) → HasValue x false (grid f n d) (2 ^ low f)
    → fits f y ≡ true → finite y ≡ true → eq x y ≡ false → distance n d x * beneath y < distance n d y * beneath x
unfolding eq
further f n d l untied nan y v h k r = absurd v
further f n d l untied (inf s) y v h k r = absurd v
further f n d l untied (fin true m e) y v h k r = absurd (true≢false v.0)
further f n d l untied (fin false m e) nan v h k r = absurd (false≢true k)
further f n d l untied (fin false m e) (inf t) v h k r = absurd (false≢true k)
further f n d l untied (fin false m e) (fin t p g) v h k r =
    let c = 2 ^ low f in
    let a = n * c in
    let b = parts f t p g h in
    let j = b.0 in
    let digits = two-le_pos (prec f) (two f) in
    crosswise c (down e) (down g) (gap (n * down e) false (m * up e * d)) (gap (n * down g) t (p * up g * d)) (off a d (grid f n d)) (gap a t (p * 2 ^ j * d))
    (down_pos e) (down_pos g) (in_units false n d c (m * up e) (grid f n d) (down e) v.1) (in_units t n d c (p * up g) (p * 2 ^ j) (down g) b.2)
    (below_zero t a (p * 2 ^ j * d) (off a d (grid f n d)) p (within (prec f) a d digits l untied) (λ s. mul-pos (mul-pos s (pow_pos j)) l)
    (λ o. others_further (prec f) a d digits l untied p j b.1
    (λ s. differ t (m * up e * down g) p (up g) (down e) r o
    (same c (down e) (down g) (m * up e) (p * up g) (p * 2 ^ j) (pow_pos (low f)) (v.1 ∙ ap (λ (x : ℕ). x * down e) s) b.2))))

-- ---- a fraction of two whole numbers that the format counts without a gap
-- it is in the normal range
normal : (f : Format) (n d : ℕ) → 0 < d → d ≤ 2 ^ prec f → 0 < n → prec f ≤ size (n * 2 ^ low f / d)
normal f n d l h k =
    normal_of_fraction f n d l
    (omega (arith, mul-le-mul_left (2 ^ (prec f - 1)) h, pow-add 2 (prec f - 1) (prec f), pow_mono (room f), mul-le-mul_right (2 ^ low f) k))
  where
    room : (f : Format) → prec f - 1 + prec f ≤ low f
    room binary32 = lit≤ tt
    room binary64 = lit≤ tt

-- what has a value is finite
value_finite : (x : Float) (n : ℕ) → HasValue x false n 1 → T (finite x)
value_finite nan n v = absurd v
value_finite (inf s) n v = absurd v
value_finite (fin s m e) n v = tt

-- it rounds to a finite number, between 0 and n
pub round_finite : (f : Format) (n d : ℕ) → n ≤ 2 ^ prec f → 0 < d → T (finite (round f false n d))
round_finite f n d h l =
    finite_between (round f false 0 1) (round f false n d) (round f false n 1)
    (value_finite (round f false 0 1) 0 (round_whole f false 0 (omega arith)))
    (value_finite (round f false n 1) n (round_whole f false n h))
    (round_mono f 0 1 n d (omega arith) l (omega arith)) (round_mono f n d n 1 l (omega arith) (mul-le-mul_left n l))

-- and no other value of the format is as near
round_nearest : (f : Format) (n d : ℕ) → n < 2 ^ prec f → 0 < d → d ≤ 2 ^ prec f → (y : Float) → fits f y ≡ true → finite y ≡ true → eq (round f false n d) y ≡ false
    → distance n d (round f false n d) * beneath y < distance n d y * beneath (round f false n d)
round_nearest f n d h l k y =
    further f n d l (no_tie (prec f) n (low f) d (two-le_pos (prec f) (two f)) l h (normal f n d l k)) (round f false n d) y
    (round_val f n d (round_under f n d (round_finite f n d (omega arith) l)))

-- so for doubles
pub nearest_double : (n d : ℕ) → n < 2 ^ 53 → 0 < d → d ≤ 2 ^ 53 → NearestDouble n d (round binary64 false n d)
nearest_double n d h l k =
    record {
      double = is_true (fits binary64 (round binary64 false n d)) (round-fits binary64 false n d);
      number = is_true (finite (round binary64 false n d)) (round_finite binary64 n d (omega arith) l);
      nearest = round_nearest binary64 n d h l k;
    }

-- and for a rate
pub rate_nearest : (bytes ticks : ℕ) → bytes ≤ 333599972 → 0 < ticks → ticks < 2 ^ 53 → NearestDouble (bytes * 27000000) ticks (byte_rate bytes ticks)
rate_nearest bytes ticks h l k = nearest_double (bytes * 27000000) ticks (omega arith) l (omega arith)
