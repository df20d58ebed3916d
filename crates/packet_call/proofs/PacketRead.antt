-- What a packet that was read brings: its reading is what the definitions take from its bytes, and its payload is at most 184 of them.
-- Assumes nothing.
use mathlib.Core.Path.{◌≡◌, sym, ◌∙◌, ap}
use mathlib.Core.Bool.{Bool}
use mathlib.Core.List.{List}
use Prim.Native.Nat.{ℕ, ◌-◌, ◌≤◌}
use native.Mathlib.Omega.{arith}
use lib.ListN.{length, take, drop, length-drop}
use lib.Seq.{take_all}
use Rattle.ground.specs.Answer.{given, refused}
use Rattle.ground.specs.Refusal.{Silent}
use Rattle.ground.proofs.Answer.{given_apart, given_same}
use Rattle.ground.proofs.Refused.{none}
use Rattle.packet.specs.Packet.{Contents, contents, read_packet, packet_refusals, told_packet}
use Rattle.packet.specs.Payload.{start_after, start_of, payload_of}
use Rattle.packet.specs.declared.Packet as packets
use Rattle.packet.proofs.Accepted.{accepted}
use Rattle.packet.proofs.PayloadSize.{at_most_184}
use Rattle.gather.specs.Rule.{Packet}

module _ (b : List ℕ) (p : packets.Packet) (e : read_packet b ≡ given (told_packet p)) where
  -- no row applies to it, and its contents are what was read
  read_none : Silent (packet_refusals b) × (given (told_packet p) ≡ given (contents b))
  read_none = none refused (given (contents b)) (packet_refusals b) (given (told_packet p)) (λ n. given_apart) (sym e)

  pub read_silent : Silent (packet_refusals b)
  read_silent = read_none.0

  pub read_same : contents b ≡ told_packet p
  read_same = sym (given_same read_none.1)

  abbrev start : ℕ
  start = start_after (told_packet p).field.size

  -- where the payload begins
  pub start_inside : start_after (told_packet p).field.size ≤ length b
  start_inside = rw (ap (start_of b) e) at (accepted b (told_packet p) e).inside

  long : length b ≡ 188
  long = (accepted b (told_packet p) e).long

  -- the part of the packet from there on is the payload
  pub part_payload : take (length b - start_after (told_packet p).field.size) (drop (start_after (told_packet p).field.size) b) ≡ payload_of b
  part_payload =
      let fits : length (drop (start_after (told_packet p).field.size) b) ≤ length b - start_after (told_packet p).field.size = simp length-drop (omega arith) in
      take_all (length b - start_after (told_packet p).field.size) (drop (start_after (told_packet p).field.size) b) fits
      ∙ ap (λ (c : Contents). drop (start_after c.field.size) b) (sym read_same)

  pub payload_short : length (take (length b - start_after (told_packet p).field.size) (drop (start_after (told_packet p).field.size) b)) ≤ 184
  payload_short =
      rw (part_payload, ap (λ (c : Contents). drop (start_after c.field.size) b) read_same) (at_most_184 b (told_packet p).field.size long)

  pub counter_few : (told_packet p).counter ≤ 15
  counter_few = let few = (accepted b (told_packet p) e).counter in omega arith

-- a packet is its counter, its unit start and its payload
pub packet_same : (counter counter' : ℕ) (start start' : Bool) (payload payload' : List ℕ) → counter ≡ counter' → start ≡ start' → payload ≡ payload'
    → ◌≡◌ {A = Packet} (record { counter = counter; start = start; payload = payload }) (record { counter = counter'; start = start'; payload = payload' })
packet_same counter counter' start start' payload payload' p q r = rw (p, q, r)
