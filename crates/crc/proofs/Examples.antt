-- Two worked examples of the figure, by computation.
-- Assumes nothing.
use mathlib.Core.Path.{◌≡◌, refl}
use mathlib.Core.Bool.{true}
use mathlib.Core.List.{[], ◌∷◌}
use Rattle.crc.specs.Figure.{tick, decoder, right, residue_of}

-- a PAT of one program, with its CRC_32
pub pat : right (0x00 ∷ 0xB0 ∷ 0x0D ∷ 0x00 ∷ 0x01 ∷ 0xC1 ∷ 0x00 ∷ 0x00 ∷ 0x00 ∷ 0x01 ∷ 0xF0 ∷ 0x00 ∷ 0x2A ∷ 0xB1 ∷ 0x04 ∷ 0xB2 ∷ []) ≡ true
unfolding tick decoder right
pat = refl

-- the digits 1 to 9 as ASCII
pub digits : residue_of (0x31 ∷ 0x32 ∷ 0x33 ∷ 0x34 ∷ 0x35 ∷ 0x36 ∷ 0x37 ∷ 0x38 ∷ 0x39 ∷ []) ≡ 0x0376E6E7
unfolding tick decoder residue_of
digits = refl
