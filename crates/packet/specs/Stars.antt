-- Document 01, "Examples (★ to be proved)": the cases that a packet read alone decides.
use Rattle.std.specs.Prelude.{◌≡◌, false, List, [], ◌∷◌, ℕ, length, get_or}
use Rattle.ground.specs.House.{packet_bytes}
use Rattle.ground.specs.Answer.{refused}
use Rattle.packet.specs.Adaptation.{length_of}
use Rattle.packet.specs.Packet.{header_of, is_error, control_of, read_packet}

pub data Case : Type 0 where
  field_full : Case

-- "control 11 .. ★ length 183: refusal 7", of every packet that has none of the earlier faults
abbrev pub Right : Case → Type 0
Right field_full =
    (s : List ℕ) → length s ≡ packet_bytes → get_or s 0 0 ≡ 0x47 → is_error (header_of s) ≡ false
    → control_of (header_of s) ≡ 3 → length_of s ≡ 183 → read_packet s ≡ refused 7

abbrev pub cases : List Case
cases = field_full ∷ []
