-- A multiple less than half a step away is the nearest one, a number of q digits and then zeros is such a multiple or smaller, and an odd number that divides n · 2 ^ j is at most n.
-- Assumes nothing.
use mathlib.Core.Path.{◌≡◌, refl, sym, ◌∙◌, ap}
use mathlib.Core.Bool.{Bool, true, false}
use mathlib.Core.Logic.{◌⊎◌, inl, inr}
use Prim.Native.Nat.{ℕ, zero, suc, ◌+◌, ◌-◌, ◌*◌, ◌/◌, ◌%◌, ◌^◌, ◌≤◌, ◌<◌, compare, Ordering}
use native.Mathlib.Nat.{le_trans, mul-one, mul_assoc, mul-pos, mul-le-mul_right, mul-lt-mul_of_pos_right, sub-eq-zero_of_le, pow-suc, pow-succ', mod-lt, mod-le, div-add-mod', div-div-eq-div-mul, le-div_iff_mul-le}
use native.Mathlib.Decide.{dec_lt, dec_le}
use native.Mathlib.Omega.{arith}
use borrow.Author.Tests.{leb-true, leb-false, eqb-true}
use lib.Dec.{is_le, compare_is_eq}
use lib.Pow.{pow-add, pow_pos, pow_mono, shl_lt}
use lib.Ieee.{size, nearest}
use lib.Ieee.Digits.{back, size_reaches}
use lib.Ieee.Nearest.{closest}
use lib.Ieee.Order.{drop, kept}
use Rattle.rates.specs.Nearest.{gap}

-- how far v lies from a / d, times d
abbrev pub off : ℕ → ℕ → ℕ → ℕ
off a d v = gap a false (v * d)

-- ---- the multiple of t that is closest to a / d
-- it is less than half of t away, and no further than the multiple below a / d
near : (a d t : ℕ) → 0 < d * t → (a % (d * t) * 2 ≡ d * t → ⊥) → (off a d (closest a (d * t) * t) * 2 < d * t) × (off a d (closest a (d * t) * t) ≤ a % (d * t))
near a d t h untied = go (compare (a % (d * t) * 2) (d * t)) refl
  where
    go : (o : Ordering) → compare (a % (d * t) * 2) (d * t) ≡ o
        → (off a d (nearest (a / (d * t)) o * t) * 2 < d * t) × (off a d (nearest (a / (d * t)) o * t) ≤ a % (d * t))
    go Ordering.lt e = omega (arith, leb-true (a % (d * t) * 2) (d * t) (ap is_le e), div-add-mod' a (d * t))
    go Ordering.eq e = absurd (untied (eqb-true (a % (d * t) * 2) (d * t) (ap compare_is_eq e)))
    go Ordering.gt e = omega (arith, leb-false (a % (d * t) * 2) (d * t) (ap is_le e), div-add-mod' a (d * t), mod-lt a h)

-- so every other multiple is further away
other : (a d t m y : ℕ) → off a d (m * t) * 2 < d * t → (m ≡ y → ⊥) → off a d (m * t) < off a d (y * t)
other a d t m y h ne = go (dec_lt m y)
  where
    go : Dec (m < y) → off a d (m * t) < off a d (y * t)
    go (yes l) = let p : suc m * (d * t) ≤ y * (d * t) = mul-le-mul_right (d * t) l in omega arith
    go (no l) = let p : suc y * (d * t) ≤ m * (d * t) = mul-le-mul_right (d * t) (omega arith) in omega arith

-- and so is all that lies under a multiple x · t below a / d
under : (a d t x v g : ℕ) → 0 < d → x ≤ a / (d * t) → v < x * t → g ≤ a % (d * t) → g < off a d v
under a d t x v g h l k e = omega (arith, div-add-mod' a (d * t), mul-le-mul_right (d * t) l, mul-lt-mul_of_pos_right k h)

-- and so is −b: beyond 0, or 0 itself, which b is only where p is
pub below_zero : (t : Bool) (a b g p : ℕ) → g ≤ a → (0 < p → 0 < b) → ((t ≡ false) ⊎ (p ≡ 0) → g < gap a false b) → g < gap a t b
below_zero false a b g p h l k = k (inl refl)
below_zero true a b g zero h l k = let q : g < a - b + (b - a) = k (inr refl) in omega arith
below_zero true a b g (suc p) h l k = let q : 0 < b = l (omega arith) in omega arith

-- ---- powers of two
-- twice the one before
pow_pred : (q : ℕ) → 0 < q → 2 ^ q ≡ 2 * 2 ^ (q - 1)
pow_pred q h = let e : q ≡ suc (q - 1) = omega arith in ap (λ (z : ℕ). 2 ^ z) e ∙ pow-succ' 2 (q - 1)

-- an odd number that divides 2 · x divides x
halved : (v c x : ℕ) → (2 * v + 1) * c ≡ x * 2 → (2 * v + 1) * (c / 2) ≡ x
halved v c x e =
    let h : c ≡ c / 2 * 2 = omega arith in
    let k : (2 * v + 1) * (c / 2 * 2) ≡ x * 2 = sym (ap (λ (z : ℕ). (2 * v + 1) * z) h) ∙ e in
    omega arith

-- so one that divides n · 2 ^ j is at most n
odd_le : (j v c n : ℕ) → 0 < n → (2 * v + 1) * c ≡ n * 2 ^ j → 2 * v + 1 ≤ n
odd_le zero v zero n h e = absurd (omega arith)
odd_le zero v (suc c) n h e = omega arith
odd_le (suc j) v c n h e = odd_le j v (c / 2) n h (halved v c (n * 2 ^ j) (e ∙ ap (λ (z : ℕ). n * z) (pow-suc 2 j) ∙ sym (mul_assoc n (2 ^ j) 2)))

-- p · 2 ^ j, where p has at most q digits, is a multiple of 2 ^ k if it has q + k digits or more
multiple : (p q j k : ℕ) → p < 2 ^ q → 0 < q → 2 ^ (q - 1) * 2 ^ k ≤ p * 2 ^ j → (y : ℕ) × (p * 2 ^ j ≡ y * 2 ^ k)
multiple p q j k h l g = go (dec_le k j)
  where
    go : Dec (k ≤ j) → (y : ℕ) × (p * 2 ^ j ≡ y * 2 ^ k)
    go (yes r) = (p * 2 ^ (j - k), ap (λ (z : ℕ). p * 2 ^ z) (sym (back j k r)) ∙ ap (λ (z : ℕ). p * z) (pow-add 2 (j - k) k) ∙ sym (mul_assoc p (2 ^ (j - k)) (2 ^ k)))
    go (no r) = let i : 2 ^ (q + j) ≤ 2 ^ (q - 1 + k) = pow_mono (omega arith) in absurd (omega (arith, shl_lt q j h, pow-add 2 (q - 1) k))

-- ---- what `round` makes of a / d, where it keeps q digits
abbrev pub rounded : ℕ → ℕ → ℕ → ℕ
rounded q a d = kept q a d * 2 ^ drop q a d

-- a / d is half way between two multiples of 2 ^ drop
abbrev pub Tie : ℕ → ℕ → ℕ → Type 0
Tie q a d = a % (d * 2 ^ drop q a d) * 2 ≡ d * 2 ^ drop q a d

-- it has q digits if a / d has as many
full : (q a d : ℕ) → 0 < q → q ≤ size (a / d) → 2 ^ (q - 1) ≤ a / (d * 2 ^ drop q a d)
full q a d h g =
    let k = drop q a d in
    rw (← div-div-eq-div-mul a d (2 ^ k)) ((le-div_iff_mul-le (pow_pos k)).1 (rw (← pow-add 2 (q - 1) k) (size_reaches (a / d) (q - 1 + k) (omega arith))))

module _ (q a d : ℕ) (h : 0 < q) (l : 0 < d) (untied : Tie q a d → ⊥) where
  -- it is less than half of 2 ^ drop away
  closely : (off a d (rounded q a d) * 2 < d * 2 ^ drop q a d) × (off a d (rounded q a d) ≤ a % (d * 2 ^ drop q a d))
  closely = near a d (2 ^ drop q a d) (mul-pos l (pow_pos (drop q a d))) untied

  -- it is no further away than 0
  pub within : off a d (rounded q a d) ≤ a
  within = le_trans closely.1 (mod-le a (d * 2 ^ drop q a d))

  -- every other p · 2 ^ j, where p has at most q digits, is further away: it is a multiple of 2 ^ drop too, or lies under all that have q digits
  pub others_further : (p j : ℕ) → p < 2 ^ q → (rounded q a d ≡ p * 2 ^ j → ⊥) → off a d (rounded q a d) < off a d (p * 2 ^ j)
  others_further p j few ne = go (dec_le q (size (a / d))) (dec_le (2 ^ (q - 1) * 2 ^ drop q a d) (p * 2 ^ j))
    where
      at : (y : ℕ) → p * 2 ^ j ≡ y * 2 ^ drop q a d → off a d (rounded q a d) < off a d (p * 2 ^ j)
      at y e = rw e (other a d (2 ^ drop q a d) (kept q a d) y closely.0 (λ z. ne (ap (λ (i : ℕ). i * 2 ^ drop q a d) z ∙ sym e)))

      go : Dec (q ≤ size (a / d)) → Dec (2 ^ (q - 1) * 2 ^ drop q a d ≤ p * 2 ^ j) → off a d (rounded q a d) < off a d (p * 2 ^ j)
      go f (yes g) = let r = multiple p q j (drop q a d) few h g in at r.0 r.1
      go (yes f) (no g) = under a d (2 ^ drop q a d) (2 ^ (q - 1)) (p * 2 ^ j) (off a d (rounded q a d)) l (full q a d h f) (omega arith) closely.1
      go (no f) (no g) = at (p * 2 ^ j) (sym (rw (sub-eq-zero_of_le {n = size (a / d)} {m = q} (omega arith)) (mul-one (p * 2 ^ j))))

-- n · 2 ^ l over d is no tie if n has at most q digits and the quotient v as many: 2 · v + 1 would be at most n
pub no_tie : (q n l d : ℕ) → 0 < q → 0 < d → n < 2 ^ q → (0 < n → q ≤ size (n * 2 ^ l / d)) → Tie q (n * 2 ^ l) d → ⊥
no_tie q zero l d h k g f e = omega (arith, div-add-mod' (0 * 2 ^ l) (d * 2 ^ drop q (0 * 2 ^ l) d), mul-pos k (pow_pos (drop q (0 * 2 ^ l) d)))
no_tie q (suc n) l d h k g f e =
    let u = d * 2 ^ drop q (suc n * 2 ^ l) d in
    let v = suc n * 2 ^ l / u in
    let s : (2 * v + 1) * u ≡ suc n * 2 ^ l * 2 = omega (arith, div-add-mod' (suc n * 2 ^ l) u) in
    let o = odd_le (suc l) v u (suc n) (omega arith) (s ∙ mul_assoc (suc n) (2 ^ l) 2 ∙ ap (λ (z : ℕ). suc n * z) (sym (pow-suc 2 l))) in
    omega (arith, full q (suc n * 2 ^ l) d h (f (omega arith)), pow_pred q h)
