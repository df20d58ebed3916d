-- One packet a turn: what is called and printed, and what is left of the piece, make up all of it.
-- Assumes nothing.
use Rattle.std.proofs.Common.{◌≡◌, length, ◌∙◌, arith}
use Rattle.std.specs.Slice.Iter.{chunks_exact_rest, chunks_exact_size}
use Rattle.text.specs.Text.{told_text}
use Rattle.pieces.specs.Piece.{told_work}
use Rattle.pieces.proofs.Loop.{work_turn, text_turn}
use Rattle.pieces.proofs.packets.Work.list_packets.Goals as goal

pub loop-packet-preserved : goal.loop-packet-preserved
loop-packet-preserved c =
    let l = c.loop-packet in
    let k = c.list_packet in
    let bytes = chunks_exact_rest l.packet-iterator in
    let rest = chunks_exact_rest c.next.new.self in
    let steps = c.in-Some.ensures.steps in
    let size : chunks_exact_size c.next.new.self ≡ 188 = steps.0 ∙ l.invariant.size in
    let whole : length c.in-Some.packet.now ≡ 188 = steps.1.1 ∙ l.invariant.size in
    let w = told_work l.self in
    let w' = told_work k.new.self in
    let t = told_text l.text in
    let t' = told_text k.new.text in
    record {
      can_next = omega arith;
      is_finite = tt;
      size = size;
      work = work_turn w w' t t' bytes c.in-Some.packet.now rest steps.1.0 whole k.ensures ∙ l.invariant.work;
      text = text_turn w w' t t' bytes c.in-Some.packet.now rest steps.1.0 whole k.ensures ∙ l.invariant.text;
    }
