-- One packet a turn: what is called and printed, and what is left of the piece, make up all of it.
-- Assumes nothing.
use Rattle.std.proofs.Common.{◌≡◌}
use Rattle.std.specs.Slice.Iter.{chunks_exact_rest, chunks_exact_size}
use Rattle.text.specs.Text.{told_text, with_bytes}
use Rattle.pieces.specs.Input.{after_calls, whole_in, printed}
use Rattle.pieces.specs.Piece.{told_work}
use Rattle.pieces.proofs.packets.Work.list_packets.Given as goal

abbrev pub invariant-loop-packet : goal.invariant-loop-packet
invariant-loop-packet l =
    let w₀ = told_work l.initial.self in
    let w = told_work l.self in
    let rest = chunks_exact_rest l.packet-iterator in
    record {
      can_next : goal.iterator-loop-packet.can_next l.packet-iterator;
      is_finite : goal.iterator-loop-packet.is_finite l.packet-iterator;
      size : chunks_exact_size l.packet-iterator ≡ 188;
      work : after_calls (whole_in rest) w rest ≡ after_calls (whole_in l.piece) w₀ l.piece;
      text : with_bytes (told_text l.text) (printed (whole_in rest) w rest) ≡ with_bytes (told_text l.initial.text) (printed (whole_in l.piece) w₀ l.piece);
    }
