-- A reading begins its payload inside the packet, and the part from there to the end stands at that place.
-- Assumes nothing.
use Rattle.std.proofs.Common.{◌≡◌, ℕ, ◌≤◌, List, length, sym}
use Rattle.ground.specs.Answer.{given}
use Rattle.packet.specs.Packet.{told_packet, read_packet}
use Rattle.packet.specs.Payload.{start_after}
use Rattle.packet.specs.declared.Packet.{Packet}
use Rattle.packet.proofs.Accepted.{accepted}
use Rattle.packet.proofs.payload.Goals as goal

-- where a reading begins its payload
inside : (s : List ℕ) (p : Packet) (start : ℕ) → given (told_packet p) ≡ read_packet s → start ≡ start_after (told_packet p).field.size → start ≤ length s
inside s p start told at = rw (← told, ← at) at (accepted s _ (sym told)).inside

pub slice_bounds-result-count : goal.slice_bounds-result-count
slice_bounds-result-count c = inside c.args.bytes.now c.in-Ok.packet _ c.in-Ok.ensures c.payload_start.ensures

pub slice_bounds-result-start : goal.slice_bounds-result-start
slice_bounds-result-start c = inside c.args.bytes.now c.in-Ok.packet _ c.in-Ok.ensures c.payload_start.ensures
