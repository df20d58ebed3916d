-- Document 01, "The packet" and "Numbers of the house", and document 02, ticket 6: what holds of every packet that is accepted.
use Rattle.std.specs.Prelude.{◌≡◌, true, List, ◌↔◌, ℕ, ◌+◌, ◌*◌, ◌-◌, ◌^◌, ◌≤◌, ◌<◌, length, get_or, drop, Some, None}
use Rattle.ground.specs.House.{packet_bytes, payload_bytes}
use Rattle.ground.specs.Answer.{given}
use Rattle.ground.specs.Number.{is_flagged}
use Rattle.std.specs.declared.option.Option.{Option}
use Rattle.ground.specs.Perhaps.{presence}
use Rattle.clock.specs.Range.{stamp_turn, reference_turn}
use Rattle.packet.specs.Part.{Span}
use Rattle.packet.specs.Extension.{LegalWindow, SeamlessSplice, Extended}
use Rattle.packet.specs.Adaptation.{AdaptationField}
use Rattle.packet.specs.Packet.{Contents, read_packet}
use Rattle.packet.specs.Payload.{start_after, payload_start}

-- bytes of the packet that are read stand before the payload
abbrev pub Inside : List ℕ → Option Span → Type 0
Inside s part = (span : Span) → part ≡ Some span → span.start + span.size ≤ payload_start s

-- "Clock reference: 0 to 2,576,980,377,599"
abbrev pub InRange : Option ℕ → Type 0
InRange clock = (v : ℕ) → clock ≡ Some v → v < reference_turn

-- the extension is there, and so is the flag of its flags byte that has `after` bits after it
abbrev pub Flagged : List ℕ → Option Span → ℕ → Type 0
Flagged s extension after = (span : Span) × ((extension ≡ Some span) × (is_flagged (get_or s span.start 0) after ≡ true))

-- what the field tells of its extension
abbrev pub extended_of : AdaptationField → Extended
extended_of f = record { window = f.window; rate = f.rate; splice = f.splice }

-- how many bytes are told: the flags byte, and "flagged parts"
abbrev pub told_size : Extended → ℕ
told_size x = 1 + 2 * presence x.window + 3 * presence x.rate + 5 * presence x.splice

-- values that have room in their bits
pub record Ranged (x : Extended) : Type 0 where
  -- "15-bit offset"
  pub window : (w : LegalWindow) → x.window ≡ Some w → w.offset < 2 ^ 15
  -- "piecewise rate (22 bits)"
  pub rate : (n : ℕ) → x.rate ≡ Some n → n < 2 ^ 22
  -- "4-bit type, 33-bit stamp"
  pub splice : (y : SeamlessSplice) → x.splice ≡ Some y → (y.splice_type < 2 ^ 4) × (y.stamp < stamp_turn)

-- of a packet s that reads as p
pub record Accepted (s : List ℕ) (p : Contents) : Type 0 where
  -- "188-byte transport packets"
  pub long : length s ≡ packet_bytes
  -- "PID (13 bits), scrambling (2), adaptation control (2), continuity counter (4)"
  pub pid : p.pid < 2 ^ 13
  pub scrambling : p.scrambling < 2 ^ 2
  pub control : (p.control ≡ 0 → ⊥) × (p.control < 2 ^ 2)
  pub counter : p.counter < 2 ^ 4
  -- the payload's place is in the packet, and is what the reading's length says
  pub start : payload_start s ≡ start_after p.field.size
  pub inside : payload_start s ≤ length s
  -- "Control 01: payload of 184 bytes"
  pub whole : p.control ≡ 1 → (p.field.size ≡ None) × (length (drop (payload_start s) s) ≡ payload_bytes)
  -- "Control 10: adaptation length exactly 183, no payload"
  pub none : p.control ≡ 2 → (p.field.size ≡ Some 183) × (length (drop (payload_start s) s) ≡ 0)
  -- "Control 11: length 0 to 182, payload 183 − length bytes"
  pub rest : p.control ≡ 3 → (n : ℕ) × ((p.field.size ≡ Some n) × (n ≤ 182) × (length (drop (payload_start s) s) ≡ 183 - n))
  -- the clock references are in range
  pub pcr : InRange p.field.pcr
  pub opcr : InRange p.field.opcr
  -- private data and extension stand before the payload
  pub private_data : Inside s p.field.private_data
  pub extension : Inside s p.field.extension
  -- "reports each, or its absence": a part of the extension is there exactly if the extension and its flag are
  pub window_there : (presence p.field.window ≡ 1) ↔ Flagged s p.field.extension 7
  pub rate_there : (presence p.field.rate ≡ 1) ↔ Flagged s p.field.extension 6
  pub splice_there : (presence p.field.splice ≡ 1) ↔ Flagged s p.field.extension 5
  -- "n at least 1, with flagged parts inside n"
  pub parts : (span : Span) → p.field.extension ≡ Some span → told_size (extended_of p.field) ≤ span.size
  -- what is told has room in its bits
  pub ranged : Ranged (extended_of p.field)

-- every packet that is accepted
abbrev pub EveryAccepted : Type 0
EveryAccepted = (s : List ℕ) (p : Contents) → read_packet s ≡ given p → Accepted s p
