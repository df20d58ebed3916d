-- What a verdict tells leaves nothing of it untold, and the table's answer is the first row that applies.
-- Assumes nothing.
use mathlib.Core.Path.{◌≡◌, refl}
use Rattle.ground.proofs.Judged.{exact}
use Rattle.ground.proofs.Outcome.{stated}
use Rattle.ground.proofs.Told.{determined_answer}
use Rattle.buffer.specs.Verdict.{Finding, passes, overruns, lingers, finding_of, arrivals, empty_buffer, first_break, verdict_refusals, verdict_of}
use Rattle.buffer.specs.Laws.{BufferLaws}
use Rattle.buffer.specs.Claims.{Claims}
use Rattle.buffer.specs.declared.Verdict.{Verdict}
use Rattle.buffer.specs.declared.Verdict.TheVariants as verdict

abbrev verdict_named : Finding → Verdict
verdict_named passes = verdict.Passes
verdict_named (overruns i) = verdict.Overruns i
verdict_named (lingers i) = verdict.Lingers i

back_verdict : (v : Verdict) → verdict_named (finding_of v) ≡ v
back_verdict verdict.Passes = refl
back_verdict (verdict.Overruns i) = refl
back_verdict (verdict.Lingers i) = refl

pub claims : Claims
claims =
    record {
      judges = λ pid rs. determined_answer finding_of verdict_named back_verdict (verdict_of pid rs);
      buffer_laws = stated BufferLaws;
      refusals = λ pid rs. exact (verdict_refusals pid rs) (first_break empty_buffer (arrivals pid 0 rs));
    }
