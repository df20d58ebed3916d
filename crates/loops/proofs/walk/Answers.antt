-- The run's answer alone: what it notes of other entries is left.
-- Assumes nothing.
use mathlib.Core.Path.{◌≡◌, ◌∙◌, ap}
use borrow.Author.Rules.{rules}
use Rattle.ground.specs.Answer.{refused, given}
use Rattle.ground.specs.Told.{number_of}
use Rattle.loops.specs.Walk.{told_walked, unnoted}
use Rattle.loops.specs.Steps.{leaves_by, run_of}
use Rattle.loops.specs.declared.walkers.Search.{Search}
use Rattle.loops.proofs.Noted.{run_walks}
use Rattle.loops.proofs.walk.Goals as goal

pub run-requires : goal.run-requires
run-requires c = ap (λ (x : Search). x.found) c.begun-search.ensures

pub returns-in_err-run : goal.returns-in_err-run
returns-in_err-run c =
    let a = c.args in
    let s = a.section.now in
    let n = number_of c.in_err-run.field-0.0 in
    let own : told_walked c.from_residual.result ≡ refused n = search rules in
    own ∙ run_walks (refused n) a.asked a.item s unnoted (c.in_err-run.ensures ∙ ap (λ (x : Search). run_of x.asked x.item s unnoted) c.begun-search.ensures)

pub returns : goal.returns
returns c =
    let a = c.args in
    let s = a.section.now in
    run_walks (given (leaves_by c.run.new.search.found)) a.asked a.item s unnoted (c.in_ok-run.ensures ∙ ap (λ (x : Search). run_of x.asked x.item s unnoted) c.begun-search.ensures)
