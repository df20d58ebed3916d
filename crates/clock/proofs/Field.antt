-- A field made of a value holds that value, and a field with its markers or reserved bits is made again of what it holds: the bits stand side by side and none is lost.
-- Assumes nothing.
use Rattle.std.proofs.Common.{◌≡◌, ℕ, ◌/◌, ◌%◌, ◌^◌, ◌<◌, ◌≤◌, true, false, not, ◌&&◌, eqb, [], ◌∷◌, sym, ap, ◌∙◌, mod-eq_of_lt, div-add-mod', arith, lit<, eq-eqb, eqb-true}
use lib.Arith.{digits_div, digits_mod}
use borrow.Author.Tests.{not-false}
use Rattle.ground.specs.Number.{field, pack, bits}
use Rattle.ground.specs.Walk.{Every}
use Rattle.ground.proofs.Test.{both_true, neither}
use Rattle.ground.proofs.Field.{Fitting, value_at, bits_lt, pack_lt, pack-unpack, unpack, unpack-pack}
use Rattle.clock.specs.Range.{stamp_turn, reference_turn}
use Rattle.clock.specs.Stamp.{stamp_of, stamp_field, stamp_layout, prefix_of, lacks_marker, is_unmarked}
use Rattle.clock.specs.Reference.{reference_of, reference_field, reference_layout, clock_base, reserved_of, extension_of}

-- ---- stamps
module _ (prefix v : ℕ) (p : prefix < 16) where
  stamp_fits : Every Fitting (stamp_layout prefix v)
  stamp_fits = (p, (bits_lt v 30 3, (lit< tt, (bits_lt v 15 15, (lit< tt, (bits_lt v 0 15, (lit< tt, tt)))))))

  pub stamp_field_lt : stamp_field prefix v < 2 ^ 40
  stamp_field_lt = pack_lt (stamp_layout prefix v) stamp_fits

  stamp_parts : unpack (4 ∷ 3 ∷ 1 ∷ 15 ∷ 1 ∷ 15 ∷ 1 ∷ []) (stamp_field prefix v) ≡ stamp_layout prefix v
  stamp_parts = unpack-pack (stamp_layout prefix v) stamp_fits

  -- its prefix and markers are right
  pub stamp_field_marked : is_unmarked (stamp_field prefix v) prefix ≡ false
  stamp_field_marked =
      rw (
        eq-eqb (bits (stamp_field prefix v) 36 4) prefix (ap (value_at 0) stamp_parts),
        eq-eqb (bits (stamp_field prefix v) 32 1) 1 (ap (value_at 2) stamp_parts),
        eq-eqb (bits (stamp_field prefix v) 16 1) 1 (ap (value_at 4) stamp_parts),
        eq-eqb (bits (stamp_field prefix v) 0 1) 1 (ap (value_at 6) stamp_parts),
      )

  -- the stamp is read back
  pub stamp_of_field : v < stamp_turn → stamp_of (stamp_field prefix v) ≡ v
  stamp_of_field h = rw (high, middle, low) (pack-unpack (3 ∷ 15 ∷ 15 ∷ []) v ∙ mod-eq_of_lt h)
    where
      high : bits (stamp_field prefix v) 33 3 ≡ bits v 30 3
      high = ap (value_at 1) stamp_parts

      middle : bits (stamp_field prefix v) 17 15 ≡ bits v 15 15
      middle = ap (value_at 3) stamp_parts

      low : bits (stamp_field prefix v) 1 15 ≡ bits v 0 15
      low = ap (value_at 5) stamp_parts

-- a stamp that was read is in range
pub stamp_of_lt : (n : ℕ) → stamp_of n < stamp_turn
stamp_of_lt n =
    pack_lt (field 3 (bits n 33 3) ∷ field 15 (bits n 17 15) ∷ field 15 (bits n 1 15) ∷ []) (bits_lt n 33 3, (bits_lt n 17 15, (bits_lt n 1 15, tt)))

-- a field whose markers are right is made again of its first four bits and its stamp
pub field_of_any : (n : ℕ) → n < 2 ^ 40 → lacks_marker n ≡ false → stamp_field (prefix_of n) (stamp_of n) ≡ n
field_of_any n h e =
    ap pack same ∙ pack-unpack (4 ∷ 3 ∷ 1 ∷ 15 ∷ 1 ∷ 15 ∷ 1 ∷ []) n ∙ mod-eq_of_lt h
  where
    right : (eqb (bits n 32 1) 1 && eqb (bits n 16 1) 1 && eqb (bits n 0 1) 1) ≡ true
    right = not-false _ e

    second : (eqb (bits n 32 1) 1 && eqb (bits n 16 1) 1) ≡ true
    second = (both_true _ (eqb (bits n 0 1) 1) right).0

    parts : unpack (3 ∷ 15 ∷ 15 ∷ []) (stamp_of n) ≡ field 3 (bits n 33 3) ∷ field 15 (bits n 17 15) ∷ field 15 (bits n 1 15) ∷ []
    parts =
        unpack-pack (field 3 (bits n 33 3) ∷ field 15 (bits n 17 15) ∷ field 15 (bits n 1 15) ∷ [])
        (bits_lt n 33 3, (bits_lt n 17 15, (bits_lt n 1 15, tt)))

    same : stamp_layout (prefix_of n) (stamp_of n) ≡ unpack (4 ∷ 3 ∷ 1 ∷ 15 ∷ 1 ∷ 15 ∷ 1 ∷ []) n
    same =
        let first : bits n 32 1 ≡ 1 = eqb-true _ _ (both_true _ (eqb (bits n 16 1) 1) second).0 in
        let middle : bits n 16 1 ≡ 1 = eqb-true _ _ (both_true (eqb (bits n 32 1) 1) _ second).1 in
        let last : bits n 0 1 ≡ 1 = eqb-true _ _ (both_true (eqb (bits n 32 1) 1 && eqb (bits n 16 1) 1) _ right).1 in
        rw (first, middle, last, ap (value_at 0) parts, ap (value_at 1) parts, ap (value_at 2) parts)

-- a field that is marked has the prefix, and its markers are right
pub marked : (n prefix : ℕ) → is_unmarked n prefix ≡ false → (prefix_of n ≡ prefix) × (lacks_marker n ≡ false)
marked n prefix e =
    let both = neither (not (eqb (prefix_of n) prefix)) (lacks_marker n) e in
    (eqb-true (prefix_of n) prefix (not-false _ both.0), both.1)

-- so it is made again of the prefix and its stamp
pub field_of_stamp : (n prefix : ℕ) → n < 2 ^ 40 → is_unmarked n prefix ≡ false → stamp_field prefix (stamp_of n) ≡ n
field_of_stamp n prefix h e =
    let right = marked n prefix e in
    ap (λ (p : ℕ). stamp_field p (stamp_of n)) (sym right.0) ∙ field_of_any n h right.1

-- ---- clock references
module _ (v : ℕ) (h : v < reference_turn) where
  reference_fits : Every Fitting (reference_layout v)
  reference_fits = (omega arith, (lit< tt, (omega arith, tt)))

  pub reference_field_lt : reference_field v < 2 ^ 48
  reference_field_lt = pack_lt (reference_layout v) reference_fits

  reference_parts : unpack (33 ∷ 6 ∷ 9 ∷ []) (reference_field v) ≡ reference_layout v
  reference_parts = unpack-pack (reference_layout v) reference_fits

  pub reference_extension : extension_of (reference_field v) ≡ v % 300
  reference_extension = ap (value_at 2) reference_parts

  -- the reference is read back
  pub reference_of_field : reference_of (reference_field v) ≡ v
  reference_of_field = rw (base, reference_extension) (div-add-mod' v 300)
    where
      base : clock_base (reference_field v) ≡ v / 300
      base = ap (value_at 0) reference_parts

-- a reference that was read is in range
pub reference_of_lt : (n : ℕ) → extension_of n ≤ 299 → reference_of n < reference_turn
reference_of_lt n h = omega arith

-- a field whose reserved bits are ones is made again of its reference
pub field_of_reference : (n : ℕ) → n < 2 ^ 48 → extension_of n ≤ 299 → reserved_of n ≡ 63 → reference_field (reference_of n) ≡ n
field_of_reference n h low ones =
    ap pack same ∙ pack-unpack (33 ∷ 6 ∷ 9 ∷ []) n ∙ mod-eq_of_lt h
  where
    same : reference_layout (reference_of n) ≡ unpack (33 ∷ 6 ∷ 9 ∷ []) n
    same =
        let small : extension_of n < 300 = omega arith in
        rw (digits_div (clock_base n) small, digits_mod (clock_base n) small, ones)
