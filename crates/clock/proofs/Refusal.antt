-- A table's answer is the first row that applies; what a write leaves has the table's answer, and beside a refusal the bytes that were lent.
-- Assumes nothing.
use Rattle.std.proofs.Common.{ℕ, ◌+◌, ◌^◌, List, pos, ◌-ℤ◌, refl}
use Rattle.ground.specs.Answer.{given}
use Rattle.ground.specs.Number.{number_at, bytes_of}
use Rattle.ground.specs.Refusal.{Row, judge}
use Rattle.ground.specs.Write.{put}
use Rattle.ground.proofs.Judged.{exact, exact_call}
use Rattle.clock.specs.Modulus.{minus_mod}
use Rattle.clock.specs.Range.{stamp_turn, reference_turn}
use Rattle.clock.specs.Written.{Wrote, unwritten}
use Rattle.clock.specs.Stamp.{stamp_read_refusals, any_stamp_refusals, stamp_write_refusals, prefixed_of, stamp_of, stamp_field}
use Rattle.clock.specs.Reference.{reference_read_refusals, reference_write_refusals, reference_of, reference_field}
use Rattle.clock.specs.Difference.{stamp_difference_refusals, reference_forward_refusals}
use Rattle.clock.specs.Claims.Refusal.{ExactWrite, Refusals}

-- a write that may be refused
exact_write : (s : List ℕ) (rows : List Row) (after : List ℕ) → ExactWrite s rows (judge (unwritten s) rows (record { answer = given tt; bytes = after }))
exact_write s rows after = exact_call (λ (w : Wrote). w.answer) (unwritten s) (λ n. refl) rows (record { answer = given tt; bytes = after }) tt refl

pub refusals : Refusals
refusals =
    record {
      stamp_read = λ s prefix. exact (stamp_read_refusals s prefix) (stamp_of (number_at s 0 5));
      any_stamp_read = λ s. exact (any_stamp_refusals s) (prefixed_of (number_at s 0 5));
      reference_read = λ s. exact (reference_read_refusals s) (reference_of (number_at s 0 6));
      stamp_written = λ s prefix v. exact_write s (stamp_write_refusals s prefix v) (put s 0 (bytes_of 5 (stamp_field prefix v)));
      reference_written = λ s v. exact_write s (reference_write_refusals s v) (put s 0 (bytes_of 6 (reference_field v)));
      stamps_apart = λ a b. exact (stamp_difference_refusals a b) (pos (minus_mod stamp_turn (a + 2 ^ 32) b) -ℤ pos (2 ^ 32));
      references_ahead = λ a b. exact (reference_forward_refusals a b) (minus_mod reference_turn a b);
    }
