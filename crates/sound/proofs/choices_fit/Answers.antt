-- What was found and what is left to test are what the answer hangs on.
-- Assumes nothing.
use mathlib.Core.Path.{◌≡◌, ◌∙◌}
use native.Mathlib.Omega.{arith}
use lib.ListN.{length}
use borrow.Author.Rules.{rules}
use Rattle.std.proofs.lemmas.Slice.Zip.{zip_turn, zip_end}
use Rattle.std.proofs.lemmas.List.{length_push}
use Rattle.sound.proofs.Choices.{choices_go, choices_end}
use Rattle.sound.proofs.choices_fit.Goals as goal

pub loop-number-preserved : goal.loop-number-preserved
loop-number-preserved c =
    let a = c.args in
    let at = c.loop-number in
    let turn = zip_turn a.numbers a.choices at.yielded c.into_iter-number-iterator.result at.number-iterator c.next.new.self c.next.result (search rules) (search rules) at.yielded_by _ c.in-Some.is c.next.ensures.steps in
    rw (length_push, turn.3 0)
    (choices_go a.numbers a.choices (length at.yielded) at.fits c.highest_choice.result turn.0 (rw (← turn.2 0) c.highest_choice.ensures) ∙ at.invariant)

pub returns : goal.returns
returns c =
    let a = c.args in
    let at = c.loop-number in
    let long : length a.numbers ≡ 32 = search rules in
    let many : length a.choices ≡ 32 = search rules in
    let done = zip_end a.numbers a.choices at.yielded c.into_iter-number-iterator.result at.number-iterator c.next.new.self c.next.result (search rules) (search rules) at.yielded_by c.in-None.is c.next.ensures.steps in
    choices_end a.numbers a.choices (length at.yielded) at.fits (omega arith) ∙ at.invariant
