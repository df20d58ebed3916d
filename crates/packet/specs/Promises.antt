-- What each public call promises.
use Rattle.std.specs.Prelude.{◌≡◌, List, ℕ}
use Rattle.ground.specs.Lent.{Lent}
use Rattle.packet.specs.Packet.{told_packet, told_reading, read_packet}
use Rattle.packet.specs.Payload.{start_after, payload_part}
use Rattle.packet.specs.declared.Packet.{Packet}
use Rattle.std.specs.declared.result.Result.{Result}
use Rattle.ground.specs.declared.Refusal.{Refusal}

-- `read` of a packet's bytes
abbrev pub ReadsPacket : List ℕ → Result Packet Refusal → Type 0
ReadsPacket s r = told_reading r ≡ read_packet s

-- `payload_start` of a packet that was read
abbrev pub FindsPayloadStart : Packet → ℕ → Type 0
FindsPayloadStart p r = r ≡ start_after (told_packet p).field.size

-- `payload` of the bytes that the caller lends: which part of them it hands back, by its place and what it holds
abbrev pub GivesPayload : Lent → Lent → Type 0
GivesPayload l r = r ≡ payload_part l
