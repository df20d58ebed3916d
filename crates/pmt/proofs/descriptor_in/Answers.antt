-- The walk's refusal is that of the descriptor.
-- Assumes nothing.
use mathlib.Core.Path.{◌≡◌, sym, ◌∙◌}
use Prim.Native.Nat.{◌+◌}
use borrow.Author.Rules.{rules}
use Rattle.ground.specs.Answer.{refused}
use Rattle.ground.specs.Told.{number_of}
use Rattle.pmt.specs.Answers.{told_pmt_descriptor}
use Rattle.pmt.proofs.Answers.{descriptor_refused}
use Rattle.pmt.proofs.descriptor_in.Goals as goal

pub returns-in_err-walk : goal.returns-in_err-walk
returns-in_err-walk c =
    let a = c.args in
    let n = number_of c.in_err-walk.field-0.0 in
    let own : told_pmt_descriptor c.from_residual.result ≡ refused n = search rules in
    own ∙ sym (descriptor_refused a.section.now a.number (c.from-i.result + 1) n (sym c.in_err-walk.ensures) a.number a.index)
