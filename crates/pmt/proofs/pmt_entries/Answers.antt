-- The four lists are tested first; the survey's verdict is then carried on to what is written.
-- Assumes nothing.
use mathlib.Core.Path.{◌≡◌, refl, sym, ◌∙◌, ap}
use Prim.Native.Nat.{◌≤◌}
use native.Mathlib.Omega.{arith}
use borrow.Author.Rules.{rules}
use lib.ListN.{length}
use Rattle.ground.specs.Answer.{Answer, refused, given}
use Rattle.ground.specs.Refusal.{Silent}
use Rattle.ground.specs.Told.{number_of}
use Rattle.ground.proofs.Refused.{no<, accepted}
use Rattle.ground.proofs.Refused
use Rattle.loops.specs.Body.{pmt_refusals}
use Rattle.loops.specs.Walk.{found_by, unnoted, survey_of}
use Rattle.loops.proofs.Noted.{survey_stops, survey_passes, survey_entries}
use Rattle.loops.proofs.Passed.{pmt_passed}
use Rattle.pmt.specs.Answers.{PmtListing, told_pmt_listed}
use Rattle.pmt.specs.Listed.{Lists, lists, Listed, unlisted}
use Rattle.pmt.proofs.Answers.{listing}
use Rattle.pmt.proofs.Listed.{few}
use Rattle.pmt.proofs.pmt_entries.Goals as goal

-- what is left is equal where its parts are
parts : {h h' : Answer PmtListing} {l l' : Lists} → h ≡ h' → l ≡ l' → ◌≡◌ {A = Listed} (record { answer = h; lists = l }) (record { answer = h'; lists = l' })
parts e p = rw (e, p) refl

pub list_streams-requires : goal.list_streams-requires
list_streams-requires c =
    let s = c.args.section.now in
    let w = c.in_ok-survey.survey in
    -- the section was walked whole, and this was found
    let whole : survey_of s ≡ record { answer = given (found_by w.walked); places = w.places } = sym c.in_ok-survey.ensures in
    let quiet : Silent (pmt_refusals s) = survey_passes s (found_by w.walked) w.places whole in
    let p = pmt_passed s quiet in
    let size = p.fixed.shared.whole in
    let bound = p.fixed.shared.short in
    let count = survey_entries s (found_by w.walked) w.places whole in
    let most = few s quiet in
    record { found = c.in_ok-survey.ensures; few = omega arith; short = omega arith; room = (search rules, search rules, search rules, search rules) }

pub returns-in_err-survey : goal.returns-in_err-survey
returns-in_err-survey c =
    let a = c.args in
    let s = a.section.now in
    let n = number_of c.in_err-survey.field-0.0 in
    let own : told_pmt_listed c.from_residual.result ≡ refused n = search rules in
    let types : 201 ≤ length a.types.now = search rules in
    let pids : 201 ≤ length a.pids.now = search rules in
    let starts : 201 ≤ length a.starts.now = search rules in
    let sizes : 201 ≤ length a.sizes.now = search rules in
    ap (λ (h : Answer PmtListing). record { answer = h; lists = lists a.types.now a.pids.now a.starts.now a.sizes.now }) own
    ∙ no< _ _ _ _ types (no< _ _ _ _ pids (no< _ _ _ _ starts (no< _ _ _ _ sizes
    (sym (Refused.refused (unlisted (lists a.types.now a.pids.now a.starts.now a.sizes.now)) _ _ (pmt_refusals s) (survey_stops s n unnoted (sym c.in_err-survey.ensures)))))))

pub returns : goal.returns
returns c =
    let a = c.args in
    let s = a.section.now in
    let w = c.in_ok-survey.survey in
    let whole : survey_of s ≡ record { answer = given (found_by w.walked); places = w.places } = sym c.in_ok-survey.ensures in
    let quiet : Silent (pmt_refusals s) = survey_passes s (found_by w.walked) w.places whole in
    let answer = ap given (c.listing.ensures ∙ listing s _ (survey_entries s (found_by w.walked) w.places whole)) in
    let types : 201 ≤ length a.types.now = search rules in
    let pids : 201 ≤ length a.pids.now = search rules in
    let starts : 201 ≤ length a.starts.now = search rules in
    let sizes : 201 ≤ length a.sizes.now = search rules in
    no< _ _ _ _ types (no< _ _ _ _ pids (no< _ _ _ _ starts (no< _ _ _ _ sizes
    (parts answer c.list_streams.ensures
    ∙ sym (accepted (unlisted (lists a.types.now a.pids.now a.starts.now a.sizes.now)) _ (pmt_refusals s) quiet)))))
