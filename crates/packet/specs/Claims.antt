-- What is claimed of the definitions and the promises, and proved.
pub mod Accepted
pub mod Extension
use Rattle.std.specs.Prelude.{List, ℕ}
use Rattle.ground.specs.Lent.{Lent}
use Rattle.ground.specs.Outcome.{Determined}
use Rattle.ground.specs.Refusal.{Exact}
use Rattle.packet.specs.Packet.{packet_refusals, read_packet}
use Rattle.packet.specs.Promises.{ReadsPacket, FindsPayloadStart, GivesPayload}
use Rattle.packet.specs.Claims.Accepted.{EveryAccepted}
use Rattle.packet.specs.Claims.Extension.{NothingLost, ReadBack, AsBefore}
use Rattle.packet.specs.declared.Packet.{Packet}

pub record Claims : Type 0 where
  -- any two outcomes that a promise admits are equal: of a reading
  pub reads_packet : (s : List ℕ) → Determined (ReadsPacket s)
  -- of where a payload begins
  pub finds_payload_start : (p : Packet) → Determined (FindsPayloadStart p)
  -- and of a payload, both its place and its bytes
  pub gives_payload : (l : Lent) → Determined (GivesPayload l)
  -- "Reading a packet alone: 2, 4 to 8", and "36 .. after 8": a number is given exactly when it is the first that applies
  pub exact : (s : List ℕ) → Exact (packet_refusals s) (read_packet s)
  -- what holds of every packet that is accepted
  pub accepted : EveryAccepted
  -- and of every extension: its bytes are made again of what was read
  pub nothing_lost : NothingLost
  -- what is written so is accepted, and read back
  pub read_back : ReadBack
  -- and without an extension nothing else has changed
  pub as_before : AsBefore
