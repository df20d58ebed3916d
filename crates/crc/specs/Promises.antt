-- What the public call promises.
use Rattle.std.specs.Prelude.{◌≡◌, List, ℕ}
use Rattle.crc.specs.Figure.{residue_of}

-- `residue` of bytes
abbrev pub GivesResidue : List ℕ → ℕ → Type 0
GivesResidue s r = r ≡ residue_of s
