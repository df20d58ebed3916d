-- Past the last row of the header the packet reads as its adaptation field.
-- Assumes nothing.
use Rattle.std.proofs.Common.{◌≡◌, ℕ, Bool, false, List, length, get_or, ap, sym, ◌∙◌}
use Rattle.ground.specs.Answer.{Answer, given}
use Rattle.ground.proofs.Judged.{mapped}
use Rattle.ground.proofs.Told.{passed_on}
use Rattle.packet.specs.Adaptation.{AdaptationField}
use Rattle.packet.specs.Packet.{told_packet, header_of, is_error, control_of, contents_of, read_packet}
use Rattle.packet.specs.Steps.{read_field}
use Rattle.packet.proofs.Header.{after_header}
use Rattle.packet.proofs.read.Goals as goal

-- where the adaptation field is read, what it makes of the packet
reads : (s t : List ℕ) (header control : ℕ) (error : Bool) (field : Answer AdaptationField) → t ≡ s
    → length s ≡ 188 → get_or t 0 0 ≡ 0x47 → header ≡ header_of t → error ≡ is_error header → error ≡ false
    → control ≡ control_of header → (control ≡ 0 → ⊥) → field ≡ read_field control t
    → mapped (contents_of header) field ≡ read_packet s
reads s t header control error field same long sync at_header at_error no_error at_control no_control read =
    let sound = rw (at_header, same) at (sym at_error ∙ no_error) in
    let some = rw (at_control, at_header, same) at no_control in
    rw (at_header, same)
    (ap (mapped (contents_of (header_of s))) (rw (at_control, at_header, same) at read) ∙ sym (after_header s long (rw same at sync) sound some))

pub returns-in_err-field : goal.returns-in_err-field
returns-in_err-field c =
    passed_on told_packet _ _ c.from_residual.ensures.1
    ∙ reads c.args.bytes.now c.in-Ok.bytes.now c.number_of_three-header.result _ _ _ c.in-Ok.ensures.1.same c.in-Ok.ensures.1.long c.if-bytes-ne71.false
    c.number_of_three-header.ensures c.is_error.ensures c.if-is_error.false c.control_of-control.ensures c.if-control-eq0.false c.in_err-field.ensures

pub returns : goal.returns
returns c =
    ap given c.packet_of.ensures
    ∙ reads c.args.bytes.now c.in-Ok.bytes.now c.number_of_three-header.result _ _ _ c.in-Ok.ensures.1.same c.in-Ok.ensures.1.long c.if-bytes-ne71.false
    c.number_of_three-header.ensures c.is_error.ensures c.if-is_error.false c.control_of-control.ensures c.if-control-eq0.false c.in_ok-field.ensures
