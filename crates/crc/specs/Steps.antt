-- What only private functions and the laws cite: no public promise and no claim reaches it. The decoder model on numbers: the register is a number below 2 ^ 32 whose most significant bit is z(31).
use Rattle.std.specs.Prelude.{◌≡◌, ℕ, suc, ◌-◌, ◌*◌, ◌^◌, Bool, cond, List, [], ◌∷◌, drop}
use Rattle.std.specs.Int.Bits.{bit_xor}
use Rattle.crc_table.specs.Table.{shift_of, shifts}
use Rattle.crc.specs.Figure.{msb_first, residue_of}

-- bits go in: each is added to the most significant bit, and the register is shifted
abbrev pub enter_bits : ℕ → List Bool → ℕ
enter_bits v [] = v
enter_bits v (b ∷ bs) = enter_bits (shift_of (bit_xor v (cond b 1 0 * 2 ^ 31))) bs

-- bytes go in
abbrev pub enter_bytes : ℕ → List ℕ → ℕ
enter_bytes v [] = v
enter_bytes v (b ∷ bs) = enter_bytes (enter_bits v (msb_first 8 b)) bs

-- a register that holds all ones when 4 - n zero bytes have gone in
abbrev pub Starts : ℕ → ℕ → Type 0
Starts n r = shifts (8 * (4 - n)) r ≡ 0xFFFFFFFF

-- a register that after 32 shifts is as the bytes leave it
abbrev pub Begins : List ℕ → ℕ → Type 0
Begins bytes r = enter_bytes 0xFFFFFFFF bytes ≡ shifts 32 r

-- a register that after 32 shifts is as the first n bytes leave it: with the others it ends at the residue
abbrev pub Enters : List ℕ → ℕ → ℕ → Type 0
Enters bytes n r = residue_of bytes ≡ enter_bytes (shifts 32 r) (drop n bytes)

-- bytes at their places in the register, from the top, after j others
abbrev pub in_place : ℕ → List ℕ → ℕ
in_place j [] = 0
in_place j (b ∷ bs) = bit_xor (b * 2 ^ (24 - 8 * j)) (in_place (suc j) bs)
