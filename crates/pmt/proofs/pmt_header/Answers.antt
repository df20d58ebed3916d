-- The header of a section that was walked whole, or the walk's refusal.
-- Assumes nothing.
use mathlib.Core.Path.{◌≡◌, sym, ◌∙◌}
use borrow.Author.Rules.{rules}
use Rattle.ground.specs.Answer.{refused}
use Rattle.ground.specs.Told.{number_of}
use Rattle.pmt.specs.Answers.{told_pmt_header}
use Rattle.pmt.proofs.Answers.{header_refused}
use Rattle.pmt.proofs.pmt_header.Goals as goal

pub returns-in_err-walked : goal.returns-in_err-walked
returns-in_err-walked c =
    let n = number_of c.in_err-walked.field-0.0 in
    let own : told_pmt_header c.from_residual.result ≡ refused n = search rules in
    own ∙ sym (header_refused c.args.section.now 0 0 n (sym c.in_err-walked.ensures))
