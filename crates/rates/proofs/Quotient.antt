-- A division of two doubles that are whole numbers is the double nearest to the fraction of those numbers.
-- Assumes nothing.
use mathlib.Core.Path.{◌≡◌, sym, ◌∙◌, ap}
use mathlib.Core.Bool.{Bool, false, cond}
use Prim.Native.Nat.{ℕ, ◌*◌, ◌^◌, ◌≤◌, ◌<◌}
use native.Mathlib.Nat.{mul-one, mul-pos, mul_assoc, mul_comm, zero-mul}
use native.Mathlib.Omega.{arith}
use lib.Dec.{T, eqb, le→leb}
use lib.IntN.{ℤ, pos}
use borrow.Author.Tests.{ne_eqb}
use lib.Ieee.{Float, nan, inf, fin, Format, binary64, prec, in_float, up, down, unlike, round, div, of_int}
use lib.Ieee.Fits.{down_pos}
use lib.Ieee.Exact.{HasValue}
use lib.Ieee.Back.{round_whole}
use lib.Ieee.Scale.{round_same}

-- cross-multiplied: x is n·b, y is d·a, so x·a over y·b is n over d
crossed : (x y a b n d : ℕ) → x ≡ n * b → y ≡ d * a → x * a * d ≡ n * (y * b)
crossed x y a b n d p q =
    ap (λ (z : ℕ). z * a * d) p
    ∙ mul_assoc (n * b) a d
    ∙ mul_assoc n b (a * d)
    ∙ ap (λ (z : ℕ). n * z) (ap (λ (z : ℕ). b * z) (mul_comm a d) ∙ mul_comm b (d * a) ∙ ap (λ (z : ℕ). z * b) (sym q))

-- the division's last clause
div_is : (f : Format) (s t : Bool) (m k : ℕ) (e g : ℤ) → eqb k 0 ≡ false
    → div f (fin s m e) (fin t k g) ≡ round f (unlike s t) (m * up e * down g) (k * up g * down e)
unfolding div
div_is f s t m k e g h =
    ap (λ (b : Bool). cond b (cond (eqb m 0) nan (inf (unlike s t))) (round f (unlike s t) (m * up e * down g) (k * up g * down e))) h

-- by the clause of two numbers, whatever fractions they are written as
pub quotient : (f : Format) (x y : Float) (n d : ℕ) → HasValue x false n 1 → HasValue y false d 1 → 0 < d → div f x y ≡ round f false n d
quotient f nan y n d v w p = absurd v
quotient f (inf s) y n d v w p = absurd v
quotient f (fin s m e) nan n d v w p = absurd w
quotient f (fin s m e) (inf t) n d v w p = absurd w
quotient f (fin s m e) (fin t k g) n d v w p =
    let a : m * up e ≡ n * down e = sym (mul-one (m * up e)) ∙ v.1 in
    let b : k * up g ≡ d * down g = sym (mul-one (k * up g)) ∙ w.1 in
    let c : 0 < k * up g = rw b (mul-pos p (down_pos g)) in
    div_is f s t m k e g (ne_eqb k 0 (λ z. let q : k * up g ≡ 0 = ap (λ (i : ℕ). i * up g) z ∙ zero-mul (up g) in absurd (omega arith)))
    ∙ ap (λ (i : Bool). round f (unlike i t) (m * up e * down g) (k * up g * down e)) v.0
    ∙ ap (λ (i : Bool). round f (unlike false i) (m * up e * down g) (k * up g * down e)) w.0
    ∙ round_same f false (m * up e * down g) (k * up g * down e) n d (mul-pos c (down_pos e)) p (crossed (m * up e) (k * up g) (down g) (down e) n d a b)

-- whole numbers that the format counts without a gap
pub whole_quotient : (f : Format) (n d : ℕ) → n ≤ 2 ^ prec f → d ≤ 2 ^ prec f → 0 < d → div f (of_int f (pos n)) (of_int f (pos d)) ≡ round f false n d
unfolding of_int
whole_quotient f n d h k p = quotient f (round f false n 1) (round f false d 1) n d (round_whole f false n h) (round_whole f false d k) p

-- such a number is made a double
pub made_exactly : {n : ℕ} → n ≤ 2 ^ 53 → T (in_float binary64 (pos n))
unfolding in_float
made_exactly {n} h = le→leb n (2 ^ 53) h
