-- The walk's refusal is that of the entry.
-- Assumes nothing.
use mathlib.Core.Path.{◌≡◌, sym, ◌∙◌}
use Prim.Native.Nat.{◌+◌}
use borrow.Author.Rules.{rules}
use Rattle.ground.specs.Answer.{refused}
use Rattle.ground.specs.Told.{number_of}
use Rattle.pmt.specs.Answers.{told_pmt_entry}
use Rattle.pmt.proofs.Answers.{entry_refused}
use Rattle.pmt.proofs.pmt_entry.Goals as goal

pub returns-in_err-walk : goal.returns-in_err-walk
returns-in_err-walk c =
    let a = c.args in
    let n = number_of c.in_err-walk.field-0.0 in
    let own : told_pmt_entry c.from_residual.result ≡ refused n = search rules in
    own ∙ sym (entry_refused a.section.now (c.from-i.result + 1) 0 n (sym c.in_err-walk.ensures) a.index)
