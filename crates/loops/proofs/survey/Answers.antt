-- The run's answer, with the places that it noted.
-- Assumes nothing.
use mathlib.Core.Path.{◌≡◌, sym, ◌∙◌, ap}
use borrow.Author.Rules.{rules}
use Rattle.ground.specs.Told.{number_of}
use Rattle.loops.specs.Walk.{found_by, told_survey, unnoted, unsurveyed}
use Rattle.loops.specs.Steps.{run_of}
use Rattle.loops.specs.declared.walkers.Search.{Search}
use Rattle.loops.proofs.Noted.{surveyed, survey_refused}
use Rattle.loops.proofs.survey.Goals as goal

pub run-requires : goal.run-requires
run-requires c = ap (λ (x : Search). x.found) c.begun-search.ensures

pub returns-in_err-run : goal.returns-in_err-run
returns-in_err-run c =
    let s = c.args.section.now in
    let n = number_of c.in_err-run.field-0.0 in
    let own : told_survey c.from_residual.result ≡ unsurveyed n = search rules in
    let on = c.in_err-run.ensures ∙ ap (λ (x : Search). run_of x.asked x.item s unnoted) c.begun-search.ensures in
    own ∙ sym (survey_refused s n (sym on))

pub returns : goal.returns
returns c =
    let s = c.args.section.now in
    let f = c.run.new.search.found in
    let on = c.in_ok-run.ensures ∙ ap (λ (x : Search). run_of x.asked x.item s unnoted) c.begun-search.ensures in
    sym (surveyed s (found_by f.walked) f.places (sym on))
