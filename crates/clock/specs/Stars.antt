-- Document 01, "Examples": the eight ★ cases about time.
use Rattle.std.specs.Prelude.{◌≡◌, ℕ, ◌-◌, ◌^◌, List, [], ◌∷◌, replicate, ℤ, pos, neg_ℤ}
use Rattle.ground.specs.Answer.{Answer, refused, given}
use Rattle.clock.specs.Stamp.{write_stamp}
use Rattle.clock.specs.Reference.{read_reference, write_reference}
use Rattle.clock.specs.Difference.{stamp_difference}

-- the forms that they have
pub data Case : Type 0 where
  -- a stamp behind a prefix is written as these bytes
  stamp_bytes : ℕ → ℕ → List ℕ → Case
  -- a clock reference is written as these bytes
  reference_bytes : ℕ → List ℕ → Case
  -- these bytes are read as a clock reference, or refused
  reference_read : List ℕ → Answer ℕ → Case
  -- one stamp less another
  stamp_less : ℕ → ℕ → ℤ → Case

-- what a case claims of the definitions, on as many lent bytes as the field has
abbrev pub Right : Case → Type 0
Right (stamp_bytes v prefix bytes) = write_stamp (replicate 5 0) prefix v ≡ record { answer = given tt; bytes = bytes }
Right (reference_bytes v bytes) = write_reference (replicate 6 0) v ≡ record { answer = given tt; bytes = bytes }
Right (reference_read bytes answer) = read_reference bytes ≡ answer
Right (stamp_less a b d) = stamp_difference a b ≡ given d

-- each of them
abbrev pub cases : List Case
cases =
    stamp_bytes 0 2 (0x21 ∷ 0x00 ∷ 0x01 ∷ 0x00 ∷ 0x01 ∷ [])
    ∷ stamp_bytes 90000 2 (0x21 ∷ 0x00 ∷ 0x05 ∷ 0xBF ∷ 0x21 ∷ [])
    ∷ stamp_bytes (2 ^ 33 - 1) 3 (0x3F ∷ 0xFF ∷ 0xFF ∷ 0xFF ∷ 0xFF ∷ [])
    ∷ reference_bytes 27000000 (0x00 ∷ 0x00 ∷ 0xAF ∷ 0xC8 ∷ 0x7E ∷ 0x00 ∷ [])
    ∷ reference_bytes 2576980377599 (0xFF ∷ 0xFF ∷ 0xFF ∷ 0xFF ∷ 0xFF ∷ 0x2B ∷ [])
    ∷ reference_read (0xFF ∷ 0xFF ∷ 0xFF ∷ 0xFF ∷ 0xFF ∷ 0x2C ∷ []) (refused 8)
    ∷ stamp_less 0 (2 ^ 33 - 1) (pos 1)
    ∷ stamp_less (2 ^ 32) 0 (neg_ℤ (pos (2 ^ 32)))
    ∷ []
