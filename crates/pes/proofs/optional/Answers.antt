-- Past the last row before the stamps the header reads as its stamps.
-- Assumes nothing.
use Rattle.std.proofs.Common.{◌≡◌, ℕ, ◌+◌, ◌/◌, ◌%◌, ◌≤◌, Bool, false, List, length, get_or, div-one, ap, sym, ◌∙◌}
use Rattle.ground.specs.Answer.{Answer, given}
use Rattle.ground.proofs.Judged.{mapped}
use Rattle.ground.proofs.Told.{passed_on}
use Rattle.pes.specs.Stamps.{Times, told_stamps}
use Rattle.pes.specs.Header.{told_contents, packet_length_of, header_length_of, second_flags, code_of, fields_size, passes_length}
use Rattle.pes.specs.Steps.{read_stamps, read_optional}
use Rattle.pes.proofs.Lengths.{with_stamps, after_lengths}
use Rattle.pes.proofs.optional.Goals as goal

-- where the stamps are read, what they make of the header
reads : (s : List ℕ) (packet fields : ℕ) (over : Bool) (stamps : Answer Times)
    → packet_length_of s ≡ packet → 9 ≤ length s → get_or s 6 0 / 64 % 4 ≡ 2 → (code_of (second_flags s) ≡ 1 → ⊥)
    → fields ≡ fields_size (second_flags s) → over ≡ passes_length packet fields (header_length_of s) → over ≡ false
    → 9 + header_length_of s ≤ length s → stamps ≡ read_stamps s (code_of (second_flags s))
    → mapped (with_stamps s) stamps ≡ read_optional s
reads s packet fields over stamps at_packet long mark flags at_fields at_over no_over there told =
    let fit = rw (at_fields, ← at_packet) at (sym at_over ∙ no_over) in
    ap (mapped (with_stamps s)) told ∙ sym (after_lengths s long mark flags fit there)

pub returns-in_err-stamps : goal.returns-in_err-stamps
returns-in_err-stamps c =
    passed_on told_contents _ _ c.from_residual.ensures.1
    ∙ reads c.args.bytes.now c.args.size _ _ _ c.requires.1 c.if-bytes-lt9.false c.if-bytes-ne2.false c.if-code-eq1.false
    c.fields_size.ensures.0 c.is_over.ensures c.if-is_over.false c.if-bytes-header.false c.in_err-stamps.ensures

pub returns : goal.returns
returns c =
    let flags = second_flags c.args.bytes.now in
    rw (← c.requires.1, ← c.requires.0, div-one flags)
    (rw (div-one flags) at
    (reads c.args.bytes.now c.args.size _ _ (given (told_stamps c.in_ok-stamps.stamps)) c.requires.1 c.if-bytes-lt9.false c.if-bytes-ne2.false c.if-code-eq1.false
    c.fields_size.ensures.0 c.is_over.ensures c.if-is_over.false c.if-bytes-header.false c.in_ok-stamps.ensures))
