-- What is claimed of the definitions and the promise, and proved.
use Rattle.std.specs.Prelude.{◌≡◌, true, List, [], ◌∷◌, ℕ, eqb}
use Rattle.ground.specs.Outcome.{Determined}
use Rattle.crc.specs.Figure.{right, residue_of}
use Rattle.crc.specs.Promises.{GivesResidue}

-- CRC_32 of bytes is right exactly where their residue is 0
abbrev pub RightResidue : List ℕ → Type 0
RightResidue s = right s ≡ eqb (residue_of s) 0

pub record Claims : Type 0 where
  -- any two outcomes that the promise admits are equal
  pub gives_residue : (s : List ℕ) → Determined (GivesResidue s)
  -- "CRC_32 is right when the decoder model of H.222.0 Annex A ends at zero"
  pub right_residue : (s : List ℕ) → RightResidue s
  -- a PAT of one program, with its CRC_32
  pub pat : right (0x00 ∷ 0xB0 ∷ 0x0D ∷ 0x00 ∷ 0x01 ∷ 0xC1 ∷ 0x00 ∷ 0x00 ∷ 0x00 ∷ 0x01 ∷ 0xF0 ∷ 0x00 ∷ 0x2A ∷ 0xB1 ∷ 0x04 ∷ 0xB2 ∷ []) ≡ true
  -- the digits 1 to 9 as ASCII
  pub digits : residue_of (0x31 ∷ 0x32 ∷ 0x33 ∷ 0x34 ∷ 0x35 ∷ 0x36 ∷ 0x37 ∷ 0x38 ∷ 0x39 ∷ []) ≡ 0x0376E6E7
