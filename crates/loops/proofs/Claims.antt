-- Nothing of an answer is left untold, the table is exact as every table is, and loops unroll as laws of them say.
-- Assumes nothing.
use mathlib.Core.Path.{◌≡◌, refl}
use Rattle.std.specs.Prelude.{Ok, Err}
use Rattle.std.specs.declared.result.Result.{Result}
use Rattle.ground.specs.declared.Refusal.{Refusal}
use Rattle.ground.proofs.Judged.{exact}
use Rattle.ground.proofs.Outcome.{determined_told}
use Rattle.ground.proofs.Told.{made, back, determined_answer}
use Rattle.loops.specs.Body.{pmt_refusals}
use Rattle.loops.specs.Walk.{Found, found_by, found_in, walk_of, Overview, told_survey, survey_of}
use Rattle.loops.specs.Claims.{Claims}
use Rattle.loops.specs.declared.Walked.{Walked}
use Rattle.loops.specs.declared.Surveyed.{Surveyed}
use Rattle.loops.proofs.Noted.{survey_exact}
use Rattle.loops.proofs.Unrolls.{no_descriptors, descriptor_follows, descriptor_overruns, descriptor_cut, no_entries, entry_follows, entry_overruns, entry_cut, entry_bits, entry_unfilled, unfilled_refused}

-- what says what was told, and that it is that
abbrev made_walked : Found → Walked
made_walked f = record { entries = f.entries; descriptors = f.descriptors; place = f.place }

abbrev made_survey : Overview → Result Surveyed Refusal
made_survey o = made (λ (f : Found). record { walked = made_walked f; places = o.places }) o.answer

back_survey : (r : Result Surveyed Refusal) → made_survey (told_survey r) ≡ r
back_survey (Ok r) = refl
back_survey (Err e) = back (λ (r : Surveyed). r) (λ (r : Surveyed). r) (λ r. refl) (Err e)

pub claims : Claims
claims =
    record {
      walks = λ s number item. determined_answer found_by made_walked (λ w. refl) (walk_of s number item);
      walks_exact = λ s number item. exact (pmt_refusals s) (found_in s number item);
      surveys = λ s. determined_told told_survey made_survey back_survey (survey_of s);
      survey_exact = survey_exact;
      no_descriptors = no_descriptors;
      descriptor_follows = descriptor_follows;
      descriptor_overruns = descriptor_overruns;
      descriptor_cut = descriptor_cut;
      no_entries = no_entries;
      entry_follows = λ at lead own rest five zeros says fill. entry_follows at lead own rest five says zeros fill;
      entry_overruns = entry_overruns;
      entry_cut = entry_cut;
      entry_bits = entry_bits;
      entry_unfilled = entry_unfilled;
      unfilled_refused = unfilled_refused;
    }
