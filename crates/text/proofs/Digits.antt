-- The fewest digits that hold a number are its decimal digits; they are few, and they are the number.
-- Assumes nothing.
use mathlib.Core.Path.{◌≡◌, refl, sym, ◌∙◌, ap, ap₂, subst}
use mathlib.Core.Bool.{Bool, true, false, not, cond}
use mathlib.Core.List.{List, [], ◌∷◌, ◌++◌}
use Prim.Native.Nat.{ℕ, zero, suc, ◌+◌, ◌*◌, ◌-◌, ◌/◌, ◌%◌, ◌^◌, ◌≤◌, ◌<◌}
use native.Mathlib.Omega.{arith}
use native.Mathlib.Numerals.{unary_clauses}
use native.Mathlib.Nat.{le_refl, not-suc-le-zero, le_of_suc-le-suc, mod-eq_of_lt, mod-lt, pow-suc, div-lt_iff_lt-mul, le-div_iff_mul-le, pow-le-pow_right}
use lib.ListN.{length, length-append}
use lib.Dec.{T, lit<, ltb, ltb→lt, nltb→le}
use Rattle.io.specs.Digits.{last_digits, IsDigitCount, hex_digit_ascii}
use Rattle.ground.proofs.Refused.{yes<, no<}
use Rattle.text.specs.Text.{digits_of, decimal_of}
use Rattle.text.specs.Claims.{value_from}

small : (d : ℕ) → d < 10 → hex_digit_ascii d ≡ 48 + d
small d h = sym (yes< d 10 (48 + d) (87 + d) h refl)

-- one digit is left where the number is below ten
last : (most n : ℕ) → n < 10 → hex_digit_ascii (n % 10) ∷ [] ≡ digits_of (suc most) n
last most n h = yes< n 10 ((48 + n) ∷ []) (digits_of most (n / 10) ++ ((48 + n % 10) ∷ [])) h (ap (λ (g : ℕ). g ∷ []) (ap hex_digit_ascii (mod-eq_of_lt h) ∙ small n h))

next : (most n : ℕ) (front : List ℕ) → 10 ≤ n → front ≡ digits_of most (n / 10) → front ++ (hex_digit_ascii (n % 10) ∷ []) ≡ digits_of (suc most) n
next most n front h e =
    no< n 10 ((48 + n) ∷ []) (digits_of most (n / 10) ++ ((48 + n % 10) ∷ [])) h (ap₂ (λ (f : List ℕ) (g : ℕ). f ++ (g ∷ [])) e (small (n % 10) (mod-lt n (lit< tt))))

pub decimal_digits : (k most n : ℕ) → k ≤ most → IsDigitCount 10 1 n k → last_digits 10 k n ≡ digits_of most n
decimal_digits zero most n h f = absurd (not-suc-le-zero f.0)
decimal_digits (suc k) zero n h f = absurd (not-suc-le-zero h)
decimal_digits (suc zero) (suc most) n h f = last most n f.1
decimal_digits (suc (suc j)) (suc most) n h f =
    let above : 10 ^ j * 10 ≤ n = simp unary_clauses at (f.2 (omega arith)) in
    let one : 1 ≤ 10 ^ j = pow-le-pow_right {n = 10} (lit< tt) {i = 0} {j = j} (omega arith) in
    let ten : 10 ≤ n = omega arith in
    let below : n / 10 < 10 ^ suc j = (div-lt_iff_lt-mul (lit< tt)).1 (rw (pow-suc 10 (suc j)) at f.1) in
    next most n (last_digits 10 (suc j) (n / 10)) ten
    (decimal_digits (suc j) most (n / 10) (le_of_suc-le-suc h) (omega arith, below, (λ _. simp unary_clauses ((le-div_iff_mul-le (lit< tt)).1 above))))

-- a number below 10^20 has at most 20 digits
few : (k n : ℕ) → n < 10 ^ 20 → IsDigitCount 10 1 n k → k ≤ 20
few k n h f = go (ltb 20 k) refl
  where
    go : (b : Bool) → ltb 20 k ≡ b → k ≤ 20
    go true e =
        let more : 20 < k = ltb→lt 20 k (subst T (sym e) tt) in
        let low : 10 ^ (k - 1) ≤ n = f.2 (omega arith) in
        let high : 10 ^ 20 ≤ 10 ^ (k - 1) = pow-le-pow_right {n = 10} (lit< tt) {i = 20} {j = k - 1} (omega arith) in
        omega arith
    go false e = nltb→le 20 k (subst T (sym (ap not e)) tt)

pub decimal_is : (k n : ℕ) → n < 10 ^ 20 → IsDigitCount 10 1 n k → last_digits 10 k n ≡ decimal_of n
unfolding decimal_of
decimal_is k n h f = decimal_digits k 20 n (few k n h f) f

-- one turn of the digits: the number is one, or there are more before its last
module _ (most n : ℕ) where
  abbrev turn : Bool → List ℕ
  turn b = cond b ((48 + n) ∷ []) (digits_of most (n / 10) ++ ((48 + n % 10) ∷ []))

digits_few : (most n : ℕ) → length (digits_of most n) ≤ most
digits_few zero n = le_refl 0
digits_few (suc most) n = go (ltb n 10) (digits_few most (n / 10))
  where
    go : (b : Bool) → length (digits_of most (n / 10)) ≤ most → length (turn most n b) ≤ suc most
    go true h = omega arith
    go false h = rw (length-append (digits_of most (n / 10)) ((48 + n % 10) ∷ [])) (simp unary_clauses (omega arith))

pub decimal_length : (n : ℕ) → length (decimal_of n) ≤ 20
unfolding decimal_of
decimal_length n = digits_few 20 n

value_append : (before : ℕ) (ds : List ℕ) (d : ℕ) → value_from before (ds ++ (d ∷ [])) ≡ value_from before ds * 10 + (d - 48)
value_append before [] d = refl
value_append before (x ∷ ds) d = value_append (before * 10 + (x - 48)) ds d

digits_value : (most n : ℕ) → n < 10 ^ most → value_from 0 (digits_of most n) ≡ n
digits_value zero n h = omega arith
digits_value (suc most) n h = go (ltb n 10) (digits_value most (n / 10) ((div-lt_iff_lt-mul (lit< tt)).1 (rw (pow-suc 10 most) at h)))
  where
    go : (b : Bool) → value_from 0 (digits_of most (n / 10)) ≡ n / 10 → value_from 0 (turn most n b) ≡ n
    go true e = omega arith
    go false e = value_append 0 (digits_of most (n / 10)) (48 + n % 10) ∙ rw e (omega arith)

pub decimal_value : (n : ℕ) → n < 10 ^ 20 → value_from 0 (decimal_of n) ≡ n
unfolding decimal_of
decimal_value n h = digits_value 20 n h
