-- There is an entry with that index, or refusal 27; it stands where it was found.
-- Assumes nothing.
use mathlib.Core.Path.{sym, ◌∙◌, ap}
use Rattle.ground.specs.Answer.{given}
use Rattle.loops.specs.Walk.{found_by}
use Rattle.pmt.proofs.Answers.{entry_inside, entry_there}
use Rattle.pmt.proofs.found_entry.Goals as goal

pub entry_at-requires : goal.entry_at-requires
entry_at-requires c =
    let a = c.args in
    entry_inside a.section.now a.i (found_by a.walked) c.requires c.if-walked-i.false

pub returns : goal.returns
returns c =
    let a = c.args in
    ap given c.entry_at.ensures
    ∙ sym (entry_there a.section.now a.i (found_by a.walked) c.requires c.if-walked-i.false)
