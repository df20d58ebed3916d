-- The shift of CRC_32's register (H.222.0 Annex A): a number below 2 ^ 32 whose most significant bit is z(31).
use Rattle.std.specs.Prelude.{ℕ, zero, suc, ◌*◌, ◌/◌, ◌%◌, ◌^◌}
use Rattle.std.specs.Int.Bits.{bit_xor}

-- one shift without input: the bits move up, and the bit that leaves adds the polynomial x^26 + x^23 + .. + x + 1
unfoldable pub shift_of : ℕ → ℕ
shift_of v = bit_xor (v * 2 % 2 ^ 32) (v / 2 ^ 31 % 2 * 0x04C11DB7)

-- n shifts without input
abbrev pub shifts : ℕ → ℕ → ℕ
shifts zero v = v
shifts (suc n) v = shifts n (shift_of v)
