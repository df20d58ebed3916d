-- Fields side by side: each is read back where it stands, whatever stands beside it, and a number is made again of all its fields.
-- Assumes nothing.
use mathlib.Core.Path.{◌≡◌, refl, sym, ◌∙◌, ap, ap₂}
use mathlib.Core.Bool.{cond}
use mathlib.Core.List.{List, [], ◌∷◌, map}
use Prim.Native.Nat.{ℕ, zero, suc, ◌+◌, ◌*◌, ◌/◌, ◌%◌, ◌^◌, ◌<◌}
use native.Mathlib.Nat.{mul_assoc, mod-one, mod-lt, mod-eq_of_lt, mul-add-div_right, mul-add-mod_self_right}
use native.Mathlib.Omega.{arith}
use lib.Arith.{digits_div, digits_lt}
use lib.Dec.{eqb, lit<}
use lib.ListN.{get_or}
use lib.Pow.{pow_pos, pow-add, mod-pow-add}
use Rattle.ground.specs.Walk.{Every, total}
use Rattle.ground.specs.Number.{Field, field, widths, pack, bits, is_flagged}

-- any field of a number fits its width
pub bits_lt : (n after width : ℕ) → bits n after width < 2 ^ width
bits_lt n after width = mod-lt (n / 2 ^ after) (pow_pos width)

-- a flag as a number is its bit
pub flag_bit : (n after : ℕ) → cond (is_flagged n after) 1 0 ≡ bits n after 1
flag_bit n after = go (bits n after 1) (bits_lt n after 1)
  where
    go : (b : ℕ) → b < 2 → cond (eqb b 1) 1 0 ≡ b
    go zero h = refl
    go (suc zero) h = refl
    go (suc (suc b)) h = absurd (omega arith)

-- the value of a field by its index
abbrev pub value_at : ℕ → List Field → ℕ
value_at i fs = (get_or fs i (field 0 0)).value

-- the value has no more bits than the field
abbrev pub Fitting : Field → Type 0
Fitting f = f.value < 2 ^ f.width

pub pack_lt : (fs : List Field) → Every Fitting fs → pack fs < 2 ^ widths fs
pack_lt [] h = lit< tt
pack_lt (f ∷ fs) h = rw (pow-add 2 f.width (widths fs)) (digits_lt h.0 (pack_lt fs h.1))

abbrev pub width : Field → ℕ
width f = f.width

widths-total : (fs : List Field) → total (λ w. w) (map width fs) ≡ widths fs
widths-total [] = refl
widths-total (f ∷ fs) = ap (λ (n : ℕ). f.width + n) (widths-total fs)

-- what stands above the field does not change it
above : (k y after width : ℕ) → bits (k * 2 ^ (width + after) + y) after width ≡ bits y after width
above k y after width =
    ap (λ (x : ℕ). (x + y) / 2 ^ after % 2 ^ width) (ap (λ (x : ℕ). k * x) (pow-add 2 width after) ∙ sym (mul_assoc k (2 ^ width) (2 ^ after)))
    ∙ ap (λ (x : ℕ). x % 2 ^ width) (mul-add-div_right (pow_pos after) (k * 2 ^ width) y)
    ∙ mul-add-mod_self_right k (2 ^ width) (y / 2 ^ after)

-- the fields of these widths that a number has
abbrev pub unpack : List ℕ → ℕ → List Field
unpack [] n = []
unpack (w ∷ ws) n = field w (bits n (total (λ w. w) ws) w) ∷ unpack ws n

widths-unpack : (ws : List ℕ) (n : ℕ) → widths (unpack ws n) ≡ total (λ w. w) ws
widths-unpack [] n = refl
widths-unpack (w ∷ ws) n = ap (λ (x : ℕ). w + x) (widths-unpack ws n)

-- what stands above the fields does not change them
unpack_above : (ws : List ℕ) (k n : ℕ) → unpack ws (k * 2 ^ total (λ w. w) ws + n) ≡ unpack ws n
unpack_above [] k n = refl
unpack_above (w ∷ ws) k n =
    ap₂ (λ (x : ℕ) (fs : List Field). field w x ∷ fs)
    (above k n (total (λ w. w) ws) w)
    (ap (λ (x : ℕ). unpack ws (x + n)) (ap (λ (x : ℕ). k * x) (pow-add 2 w (total (λ w. w) ws)) ∙ sym (mul_assoc k (2 ^ w) (2 ^ total (λ w. w) ws)))
    ∙ unpack_above ws (k * 2 ^ w) n)

-- fields are read back from the number that they make
pub unpack-pack : (fs : List Field) → Every Fitting fs → unpack (map width fs) (pack fs) ≡ fs
unpack-pack [] h = refl
unpack-pack (f ∷ fs) h =
    ap₂ (λ (x : ℕ) (gs : List Field). field f.width x ∷ gs)
    (ap (λ (n : ℕ). bits (pack (f ∷ fs)) n f.width) (widths-total fs)
    ∙ ap (λ (x : ℕ). x % 2 ^ f.width) (digits_div f.value (pack_lt fs h.1))
    ∙ mod-eq_of_lt h.0)
    (ap (λ (n : ℕ). unpack (map width fs) (f.value * 2 ^ n + pack fs)) (sym (widths-total fs))
    ∙ unpack_above (map width fs) f.value (pack fs)
    ∙ unpack-pack fs h.1)

-- a number is made again of its fields
pub pack-unpack : (ws : List ℕ) (n : ℕ) → pack (unpack ws n) ≡ n % 2 ^ total (λ w. w) ws
pack-unpack [] n = sym (mod-one n)
pack-unpack (w ∷ ws) n =
    ap (λ (x : ℕ). bits n (total (λ w. w) ws) w * 2 ^ x + pack (unpack ws n)) (widths-unpack ws n)
    ∙ ap (λ (x : ℕ). bits n (total (λ w. w) ws) w * 2 ^ total (λ w. w) ws + x) (pack-unpack ws n)
    ∙ sym (mod-pow-add n w (total (λ w. w) ws))
