-- There is a loop with that number and a descriptor with that index, or refusal 27; it stands where it was found.
-- Assumes nothing.
use mathlib.Core.Path.{sym, ◌∙◌, ap}
use Rattle.ground.specs.Answer.{given}
use native.Mathlib.Omega.{arith}
use Rattle.loops.specs.Walk.{found_by}
use Rattle.pmt.proofs.Answers.{loop_missing, descriptor_missing_lem, descriptor_inside, descriptor_there}
use Rattle.pmt.proofs.found_descriptor.Goals as goal

pub returns-then-walked-number : goal.returns-then-walked-number
returns-then-walked-number c =
    let a = c.args in
    sym (loop_missing a.section.now a.number a.i (found_by a.walked) c.requires c.if-walked-number.true)

pub returns-then-walked-i : goal.returns-then-walked-i
returns-then-walked-i c =
    let a = c.args in
    sym (descriptor_missing_lem a.section.now a.number a.i (found_by a.walked) c.requires c.if-walked-number.false c.if-walked-i.true)

pub descriptor_at-requires : goal.descriptor_at-requires
descriptor_at-requires c =
    let a = c.args in
    let h = descriptor_inside a.section.now a.number a.i (found_by a.walked) c.requires c.if-walked-number.false c.if-walked-i.false in
    omega arith

pub returns : goal.returns
returns c =
    let a = c.args in
    ap given c.descriptor_at.ensures
    ∙ sym (descriptor_there a.section.now a.number a.i (found_by a.walked) c.requires c.if-walked-number.false c.if-walked-i.false)
