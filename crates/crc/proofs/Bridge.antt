-- The figure's delay elements and the register are one: a tick of the figure is the input added to the top bit and a shift.
-- Assumes nothing.
use mathlib.Core.Path.{◌≡◌, refl, sym, ◌∙◌, ap, ap₂}
use mathlib.Core.Bool.{Bool, true, false, cond, not}
use mathlib.Core.List.{List, [], ◌∷◌}
use Prim.Native.Nat.{ℕ, zero, suc, ◌+◌, ◌*◌, ◌/◌, ◌%◌, ◌^◌, ◌<◌}
use native.Mathlib.Nat.{add-zero, zero-add, mul_assoc, pow-suc}
use native.Mathlib.Omega.{arith}
use borrow.Author.Tests.{ne_eqb}
use lib.Dec.{eqb, lit<}
use lib.ListN.{length, get_or, take, replicate}
use lib.Seq.{length-take-le}
use lib.Bits.{bit_xor, xor_block, xor_zero_r}
use Rattle.ground.specs.Walk.{all}
use Rattle.crc.specs.Figure.{◌⊕◌, adder_behind, hand_on, tick, msb_first, bits_in, bytes_in, decoder, right, register_of, residue_of}
use Rattle.crc.specs.Claims.{RightResidue}
use Rattle.crc_table.specs.Table.{shift_of}
use Rattle.crc.specs.Steps.{enter_bits, enter_bytes}
use Rattle.ground.proofs.Xor.{xor_bit}
use Rattle.crc_table.proofs.Linear.{shift_small}

bit_lt : (z : Bool) → cond z 1 0 < 2
bit_lt true = lit< tt
bit_lt false = lit< tt

-- adding to a bit through an adder, or past it
added : (a z : Bool) → cond (cond a (z ⊕ true) z) 1 0 ≡ bit_xor (cond z 1 0) (cond a 1 0)
added true true = refl
added true false = refl
added false true = refl
added false false = refl

passed : (a z : Bool) → cond a (z ⊕ false) z ≡ z
passed true true = refl
passed true false = refl
passed false z = refl

-- the adders behind z(i) .. z(i + n - 1), as a number
abbrev taps : ℕ → ℕ → ℕ
taps i zero = 0
taps i (suc n) = taps (suc i) n * 2 + cond (adder_behind i) 1 0

-- with feedback 1 the adders' places are added, with feedback 0 nothing is
handed_one : (zs : List Bool) (i : ℕ) → register_of (hand_on true i zs) ≡ bit_xor (register_of zs) (taps i (length zs))
handed_one [] i = refl
handed_one (z ∷ zs) i =
    ap₂ (λ (x y : ℕ). x * 2 + y) (handed_one zs (suc i)) (added (adder_behind i) z)
    ∙ sym (xor_bit (register_of zs) (taps (suc i) (length zs)) (cond z 1 0) (cond (adder_behind i) 1 0) (bit_lt z) (bit_lt (adder_behind i)))

handed_zero : (zs : List Bool) (i : ℕ) → hand_on false i zs ≡ zs
handed_zero [] i = refl
handed_zero (z ∷ zs) i = ap₂ (λ (x : Bool) (xs : List Bool). x ∷ xs) (passed (adder_behind i) z) (handed_zero zs (suc i))

length-hand_on : (f : Bool) (zs : List Bool) (i : ℕ) → length (hand_on f i zs) ≡ length zs
length-hand_on f [] i = refl
length-hand_on f (z ∷ zs) i = ap suc (length-hand_on f zs (suc i))

register_lt : (zs : List Bool) → register_of zs < 2 ^ length zs
register_lt [] = lit< tt
register_lt (z ∷ zs) =
    let h = register_lt zs in
    let b = bit_lt z in
    rw (pow-suc 2 (length zs)) (omega arith)

-- the last element is the top bit, and the others are the rest
register_top : (n : ℕ) (zs : List Bool) → length zs ≡ suc n → register_of zs ≡ cond (get_or zs n false) 1 0 * 2 ^ n + register_of (take n zs)
register_top n [] h = absurd (omega arith)
register_top zero (z ∷ []) h = omega arith
register_top zero (z ∷ (y ∷ zs)) h = absurd (omega arith)
register_top (suc n) (z ∷ zs) h =
    let e = register_top n zs (omega arith) in
    let p = mul_assoc (cond (get_or zs n false) 1 0) (2 ^ n) 2 in
    rw (pow-suc 2 n) (omega arith)

length-tick : (z : List Bool) (b : Bool) → length z ≡ 32 → length (tick z b) ≡ 32
unfolding tick
length-tick z b h =
    ap suc (length-hand_on (b ⊕ get_or z 31 false) (take 31 z) 0 ∙ length-take-le 31 z (omega arith))

entered : (b t : Bool) → bit_xor (cond t 1 0) (cond b 1 0) ≡ cond (b ⊕ t) 1 0
entered true true = refl
entered true false = refl
entered false true = refl
entered false false = refl

-- a shift of a register whose top bit is the feedback
shift_top : (f : Bool) (zs : List Bool) → length zs ≡ 31
    → register_of (f ∷ hand_on f 0 zs) ≡ shift_of (cond f 1 0 * 2 ^ 31 + register_of zs)
unfolding shift_of
shift_top false zs h =
    let l : register_of zs < 2 ^ 31 = rw h at (register_lt zs) in
    ap (λ (x : List Bool). register_of x * 2 + 0) (handed_zero zs 0)
    ∙ add-zero (register_of zs * 2)
    ∙ sym (ap shift_of (zero-add (register_of zs)) ∙ shift_small (register_of zs) l)
shift_top true zs h =
    let l : register_of zs < 2 ^ 31 = rw h at (register_lt zs) in
    let low : (2 ^ 31 + register_of zs) * 2 % 2 ^ 32 ≡ register_of zs * 2 + 0 = omega arith in
    let top : (2 ^ 31 + register_of zs) / 2 ^ 31 % 2 ≡ 1 = omega arith in
    ap (λ (x : ℕ). x * 2 + 1) (handed_one zs 0 ∙ ap (λ (n : ℕ). bit_xor (register_of zs) (taps 0 n)) h)
    ∙ sym (xor_bit (register_of zs) (taps 0 31) 0 1 (lit< tt) (lit< tt))
    ∙ sym (ap₂ (λ (x y : ℕ). bit_xor x (y * 0x04C11DB7)) low top)

tick_shift : (z : List Bool) (b : Bool) → length z ≡ 32 → register_of (tick z b) ≡ shift_of (bit_xor (register_of z) (cond b 1 0 * 2 ^ 31))
unfolding tick
tick_shift z b h =
    let t = get_or z 31 false in
    let low = take 31 z in
    let len : length low ≡ 31 = length-take-le 31 z (omega arith) in
    let l : register_of low < 2 ^ 31 = rw len at (register_lt low) in
    shift_top (b ⊕ t) low len
    ∙ ap shift_of (sym (
    ap₂ bit_xor (register_top 31 z h) (sym (add-zero (cond b 1 0 * 2 ^ 31)))
    ∙ xor_block 31 (cond t 1 0) (cond b 1 0) (register_of low) 0 l (lit< tt)
    ∙ ap₂ (λ (x y : ℕ). x * 2 ^ 31 + y) (entered b t) (xor_zero_r (register_of low))))

bits_enter : (bs z : List Bool) → length z ≡ 32
    → (register_of (bits_in z bs) ≡ enter_bits (register_of z) bs) × (length (bits_in z bs) ≡ 32)
bits_enter [] z h = (refl, h)
bits_enter (b ∷ bs) z h =
    let rest = bits_enter bs (tick z b) (length-tick z b h) in
    (rest.0 ∙ ap (λ (v : ℕ). enter_bits v bs) (tick_shift z b h), rest.1)

bytes_enter : (bytes : List ℕ) (z : List Bool) → length z ≡ 32 → register_of (bytes_in z bytes) ≡ enter_bytes (register_of z) bytes
bytes_enter [] z h = refl
bytes_enter (b ∷ bs) z h =
    let own = bits_enter (msb_first 8 b) z h in
    bytes_enter bs (bits_in z (msb_first 8 b)) own.1 ∙ ap (λ (v : ℕ). enter_bytes v bs) own.0

-- what the figure ends at is what the register ends at
pub residue_enter : (bytes : List ℕ) → residue_of bytes ≡ enter_bytes 0xFFFFFFFF bytes
unfolding decoder residue_of
residue_enter bytes = bytes_enter bytes (replicate 32 true) refl

double_zero : (n : ℕ) → eqb n 0 ≡ eqb (n * 2 + 0) 0
double_zero zero = refl
double_zero (suc n) = ne_eqb (suc n) 0 (λ e. omega arith) ∙ sym (ne_eqb (suc n * 2 + 0) 0 (λ e. omega arith))

all_zero : (zs : List Bool) → all not zs ≡ eqb (register_of zs) 0
all_zero [] = refl
all_zero (true ∷ zs) = sym (ne_eqb (register_of zs * 2 + 1) 0 (λ e. omega arith))
all_zero (false ∷ zs) = all_zero zs ∙ double_zero (register_of zs)

-- the elements end at zero exactly where their number does
pub right_residue : (bytes : List ℕ) → RightResidue bytes
unfolding right residue_of
right_residue bytes = all_zero (decoder bytes)
