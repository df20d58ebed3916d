-- Document 01, "The packet": the payload, a part of the caller's packet.
use Rattle.std.specs.Prelude.{List, ℕ, ◌+◌, length, drop, Some, None}
use Rattle.ground.specs.Answer.{Answer, refused, given}
use Rattle.ground.specs.Lent.{Lent, part_from}
use Rattle.std.specs.declared.option.Option.{Option}
use Rattle.packet.specs.Packet.{Contents, contents, read_packet}

-- "Control 01: payload of 184 bytes. Control 10: .. no payload. Control 11: .. payload 183 − length bytes": it begins after the header, or after the field where there is one
abbrev pub start_after : Option ℕ → ℕ
start_after None = 4
start_after (Some n) = 5 + n

-- where the payload of a packet that reads so begins; "for a refused packet it is the empty part at the packet's end"
abbrev pub start_of : List ℕ → Answer Contents → ℕ
start_of s (given p) = start_after p.field.size
start_of s (refused n) = length s

-- where the payload of a packet begins
abbrev pub payload_start : List ℕ → ℕ
payload_start s = start_of s (read_packet s)

-- the payload of a packet that is not refused
abbrev pub payload_of : List ℕ → List ℕ
payload_of s = drop (start_after (contents s).field.size) s

-- "The payload answer is the part of the caller's packet that holds the payload"
abbrev pub payload_part : Lent → Lent
payload_part l = part_from l (payload_start l.bytes)
