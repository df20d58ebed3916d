-- Document 01's example: the lines of its three packets, computed.
-- Assumes nothing.
use mathlib.Core.Path.{◌≡◌, refl}
use mathlib.Core.Bool.{Bool, true, false}
use mathlib.Core.List.{List, [], ◌∷◌}
use Prim.Native.Nat.{ℕ}
use Rattle.text.specs.Text.{decimal_of}
use Rattle.ground.specs.Answer.{refused, given}
use Rattle.packet_call.specs.Packet.{Said, unwanted}
use Rattle.lines.specs.Lines.{lines_of}

-- a packet with one section, and whether it was a jump
abbrev one : ℕ → Bool → Said
one bytes jump = record { wanted = true; sections = 1; bytes = bytes; jump = jump; repeat = false; given_up = 0; begun = 1 }

-- "0 0 section 128 4"
first : lines_of 0 0 (given (one 4 false)) (0x80 ∷ 0x30 ∷ 0x01 ∷ 0xAA ∷ [])
    ≡ 0x30 ∷ 0x09 ∷ 0x30 ∷ 0x09 ∷ 0x73 ∷ 0x65 ∷ 0x63 ∷ 0x74 ∷ 0x69 ∷ 0x6F ∷ 0x6E ∷ 0x09 ∷ 0x31 ∷ 0x32 ∷ 0x38 ∷ 0x09 ∷ 0x34 ∷ 0x0A ∷ []
unfolding decimal_of
first = refl

-- "1 - refused 4 -"
second : lines_of 1 0 (refused 4) (0x80 ∷ [])
    ≡ 0x31 ∷ 0x09 ∷ 0x2D ∷ 0x09 ∷ 0x72 ∷ 0x65 ∷ 0x66 ∷ 0x75 ∷ 0x73 ∷ 0x65 ∷ 0x64 ∷ 0x09 ∷ 0x34 ∷ 0x09 ∷ 0x2D ∷ 0x0A ∷ []
unfolding decimal_of
second = refl

-- "2 0 jump - -", "2 0 section 129 3"
third : lines_of 2 0 (given (one 3 true)) (0x81 ∷ 0x30 ∷ 0x00 ∷ [])
    ≡ 0x32 ∷ 0x09 ∷ 0x30 ∷ 0x09 ∷ 0x6A ∷ 0x75 ∷ 0x6D ∷ 0x70 ∷ 0x09 ∷ 0x2D ∷ 0x09 ∷ 0x2D ∷ 0x0A ∷ 0x32 ∷ 0x09 ∷ 0x30 ∷ 0x09 ∷ 0x73 ∷ 0x65 ∷ 0x63 ∷ 0x74 ∷ 0x69 ∷ 0x6F ∷ 0x6E ∷ 0x09 ∷ 0x31 ∷ 0x32 ∷ 0x39 ∷ 0x09 ∷ 0x33 ∷ 0x0A ∷ []
unfolding decimal_of
third = refl

-- an unwanted packet prints no line
fourth : (out : List ℕ) → lines_of 3 0 (given unwanted) out ≡ []
fourth out = refl
