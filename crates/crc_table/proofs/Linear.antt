-- The register's shifts are linear over `bit_xor`: what they make of a sum is the sum of what they make of its parts.
-- Assumes nothing.
use mathlib.Core.Path.{◌≡◌, refl, sym, ◌∙◌, ap, ap₂}
use Prim.Native.Nat.{ℕ, zero, suc, ◌+◌, ◌*◌, ◌/◌, ◌%◌, ◌^◌, ◌<◌}
use native.Mathlib.Nat.{zero-add, suc-add, mod-lt, mod-eq_of_lt, mul_assoc, pow-suc, mul_comm, mul-one, mul-le-mul_left}
use native.Mathlib.Omega.{arith}
use lib.Dec.{lit<}
use lib.Pow.{pow_pos, pow-add}
use lib.Bits.{bit_xor, xor_mod, xor_shr, xor_zero_r}
use Rattle.crc_table.specs.Table.{shift_of, shifts}
use Rattle.ground.proofs.Xor.{bit_cases, xor_swap, xor-shl}

-- the polynomial, added or not
poly_xor : (x y : ℕ) → x < 2 → y < 2 → bit_xor x y * 0x04C11DB7 ≡ bit_xor (x * 0x04C11DB7) (y * 0x04C11DB7)
poly_xor x y hx hy =
    bit_cases (λ x. bit_xor x y * 0x04C11DB7 ≡ bit_xor (x * 0x04C11DB7) (y * 0x04C11DB7)) refl
    (bit_cases (λ y. bit_xor 1 y * 0x04C11DB7 ≡ bit_xor 0x04C11DB7 (y * 0x04C11DB7)) refl refl y hy) x hx

pub shift_xor : (a b : ℕ) → shift_of (bit_xor a b) ≡ bit_xor (shift_of a) (shift_of b)
unfolding shift_of
shift_xor a b =
    ap₂ bit_xor
    (ap (λ (x : ℕ). x % 2 ^ 32) (sym (xor-shl 1 a b)) ∙ xor_mod (a * 2) (b * 2) 32)
    (ap (λ (x : ℕ). x % 2 * 0x04C11DB7) (xor_shr a b 31)
    ∙ ap (λ (x : ℕ). x * 0x04C11DB7) (xor_mod (a / 2 ^ 31) (b / 2 ^ 31) 1)
    ∙ poly_xor (a / 2 ^ 31 % 2) (b / 2 ^ 31 % 2) (mod-lt (a / 2 ^ 31) (lit< tt)) (mod-lt (b / 2 ^ 31) (lit< tt)))
    ∙ xor_swap (a * 2 % 2 ^ 32) (b * 2 % 2 ^ 32) (a / 2 ^ 31 % 2 * 0x04C11DB7) (b / 2 ^ 31 % 2 * 0x04C11DB7)

pub shifts_xor : (n a b : ℕ) → shifts n (bit_xor a b) ≡ bit_xor (shifts n a) (shifts n b)
shifts_xor zero a b = refl
shifts_xor (suc n) a b = ap (shifts n) (shift_xor a b) ∙ shifts_xor n (shift_of a) (shift_of b)

-- shifts one after the other
pub shifts_add : (m n v : ℕ) → shifts n (shifts m v) ≡ shifts (m + n) v
shifts_add zero n v = ap (λ (x : ℕ). shifts x v) (sym (zero-add n))
shifts_add (suc m) n v = shifts_add m n (shift_of v) ∙ ap (λ (x : ℕ). shifts x v) (sym (suc-add m n))

-- where no bit leaves the register a shift doubles it
pub shift_small : (v : ℕ) → v < 2 ^ 31 → shift_of v ≡ v * 2
unfolding shift_of
shift_small v h =
    let low : v * 2 % 2 ^ 32 ≡ v * 2 = mod-eq_of_lt (omega arith) in
    let top : v / 2 ^ 31 % 2 ≡ 0 = omega arith in
    ap₂ (λ (x y : ℕ). bit_xor x (y * 0x04C11DB7)) low top ∙ xor_zero_r (v * 2)

pub shifts_small : (n v : ℕ) → v * 2 ^ n < 2 ^ 32 → shifts n v ≡ v * 2 ^ n
shifts_small zero v h = sym (mul-one v)
shifts_small (suc n) v h =
    let e : v * 2 ^ suc n ≡ v * 2 * 2 ^ n = ap (λ (x : ℕ). v * x) (pow-suc 2 n ∙ mul_comm (2 ^ n) 2) ∙ sym (mul_assoc v 2 (2 ^ n)) in
    let k = rw e at h in
    ap (shifts n) (shift_small v (omega (arith, mul-le-mul_left (v * 2) (pow_pos n)))) ∙ shifts_small n (v * 2) k ∙ sym e

-- a byte moves up to the register's top
pub shifts_top : (n m b : ℕ) → n + m ≡ 24 → b < 256 → shifts m (b * 2 ^ n) ≡ b * 2 ^ 24
shifts_top n m b e h =
    let place : b * 2 ^ n * 2 ^ m ≡ b * 2 ^ 24 = mul_assoc b (2 ^ n) (2 ^ m) ∙ ap (λ (x : ℕ). b * x) (sym (pow-add 2 n m) ∙ ap (λ (x : ℕ). 2 ^ x) e) in
    shifts_small m (b * 2 ^ n) (omega arith) ∙ place
