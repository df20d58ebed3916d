-- The rows for the two clock references and for the extension are judged one after the other, each in its own call.
-- Assumes nothing.
use Rattle.std.proofs.Common.{ap, ◌∙◌, Some}
use Rattle.ground.specs.Answer.{given}
use Rattle.ground.proofs.Told.{passed_on}
use Rattle.packet.specs.Adaptation.{told_clock, told_field}
use Rattle.packet.specs.Steps.{read_extended}
use Rattle.packet.proofs.Flagged.{fitting_read}
use Rattle.packet.proofs.adaptation.fitting.Goals as goal

pub returns-in_err-inner : goal.returns-in_err-inner
returns-in_err-inner c =
    let a = c.args in
    passed_on told_field _ _ c.from_residual-in_err-inner.ensures.1
    ∙ fitting_read a.bytes.now (Some a.size) a.flags (given (told_clock c.in_ok-pcr.pcr)) (given (told_clock c.in_ok-opcr.opcr)) _
    c.in_ok-pcr.ensures (rw c.opcr_place.ensures at c.in_ok-opcr.ensures) (c.in_err-inner.ensures ∙ ap (read_extended a.bytes.now) c.requires.0.extension)

pub returns : goal.returns
returns c =
    let a = c.args in
    rw (c.countdown_at.ensures, c.countdown_place.ensures, c.requires.0.own, c.requires.0.extension)
    (fitting_read a.bytes.now (Some a.size) a.flags (given (told_clock c.in_ok-pcr.pcr)) (given (told_clock c.in_ok-opcr.opcr)) _
    c.in_ok-pcr.ensures (rw c.opcr_place.ensures at c.in_ok-opcr.ensures) (c.in_ok-inner.ensures ∙ ap (read_extended a.bytes.now) c.requires.0.extension))
