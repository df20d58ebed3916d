-- What an answer tells leaves nothing of it untold.
-- Assumes nothing.
use Rattle.std.proofs.Common.{◌≡◌, ℕ, List, ℤ, refl, ap}
use Rattle.std.specs.declared.result.Result.{Result}
use Rattle.ground.specs.declared.Refusal.{Refusal}
use Rattle.ground.proofs.Outcome.{determined_told, stated}
use Rattle.ground.proofs.Told.{made, back, determined_answer}
use Rattle.clock.specs.Written.{Wrote, wrote}
use Rattle.clock.specs.Stamp.{Prefixed, read_stamp, read_any_stamp, write_stamp}
use Rattle.clock.specs.Reference.{read_reference, write_reference}
use Rattle.clock.specs.Difference.{stamp_difference, reference_forward}
use Rattle.clock.specs.Sums.{ClockSums}
use Rattle.clock.specs.Claims.Outcome.{Outcomes}
use Rattle.clock.specs.declared.stamp.Stamp.{Stamp}
use Rattle.clock.specs.declared.stamp.AnyStamp.{AnyStamp}
use Rattle.clock.specs.declared.reference.Reference.{Reference}

-- a write's outcome is its answer and the bytes after it
abbrev made_wrote : Wrote → Result (Unit {0}) Refusal × List ℕ
made_wrote w = (made (λ (u : Unit {0}). u) w.answer, w.bytes)

abbrev told_wrote : Result (Unit {0}) Refusal × List ℕ → Wrote
told_wrote o = wrote o.0 o.1

back_wrote : (o : Result (Unit {0}) Refusal × List ℕ) → made_wrote (told_wrote o) ≡ o
back_wrote o = ap (λ (r : Result (Unit {0}) Refusal). (r, o.1)) (back (λ (u : Unit {0}). u) (λ u. u) (λ u. refl) o.0)

pub outcomes : Outcomes
outcomes =
    record {
      reads_stamp = λ s prefix. determined_answer (λ (v : Stamp). v.0) (λ (n : ℕ). record { 0 = n }) (λ v. refl) (read_stamp s prefix);
      reads_any_stamp = λ s. determined_answer (λ (v : AnyStamp). record { prefix = v.prefix; stamp = v.stamp.0 })
          (λ (p : Prefixed). record { prefix = p.prefix; stamp = record { 0 = p.stamp } }) (λ v. refl) (read_any_stamp s);
      writes_stamp = λ s prefix v. determined_told told_wrote made_wrote back_wrote (write_stamp s prefix v);
      tells_apart = λ a b. determined_answer (λ (d : ℤ). d) (λ d. d) (λ d. refl) (stamp_difference a b);
      reads_reference = λ s. determined_answer (λ (v : Reference). v.0) (λ (n : ℕ). record { 0 = n }) (λ v. refl) (read_reference s);
      writes_reference = λ s v. determined_told told_wrote made_wrote back_wrote (write_reference s v);
      tells_ahead = λ a b. determined_answer (λ (d : ℕ). d) (λ d. d) (λ d. refl) (reference_forward a b);
      clock_sums = stated ClockSums;
    }
