-- Each claim by its own file; a value in range is the answer of a reading that passed its table.
-- Assumes nothing.
use Rattle.std.proofs.Common.{ltb-false}
use Rattle.ground.specs.Number.{number_at}
use Rattle.ground.proofs.Field.{bits_lt}
use Rattle.ground.proofs.Judged.{given_by}
use Rattle.clock.specs.Stamp.{stamp_read_refusals, any_stamp_refusals, prefixed_of, stamp_of}
use Rattle.clock.specs.Reference.{reference_read_refusals, reference_of, extension_of}
use Rattle.clock.specs.Claims.{Claims}
use Rattle.clock.proofs.Field.{stamp_of_lt, reference_of_lt}
use Rattle.clock.proofs.Outcome.{outcomes}
use Rattle.clock.proofs.Refusal.{refusals}
use Rattle.clock.proofs.Either.{either_reading}
use Rattle.clock.proofs.RoundTrip.{round_trips, any_stamp_returns, any_stamp_stays}
use Rattle.clock.proofs.Modulus.{around, wrapped}
use Rattle.clock.proofs.Turn.{turns}

pub claims : Claims
claims =
    record {
      outcomes = outcomes;
      refusals = refusals;
      stamp_in_range = λ s prefix v e.
          rw (given_by (stamp_read_refusals s prefix) (stamp_of (number_at s 0 5)) v e).1 (stamp_of_lt (number_at s 0 5));
      any_stamp_in_range = λ s p e.
          rw (given_by (any_stamp_refusals s) (prefixed_of (number_at s 0 5)) p e).1 (bits_lt (number_at s 0 5) 36 4, stamp_of_lt (number_at s 0 5));
      either_reading = either_reading;
      any_stamp_returns = any_stamp_returns;
      any_stamp_stays = any_stamp_stays;
      reference_in_range = λ s v e.
          let found = given_by (reference_read_refusals s) (reference_of (number_at s 0 6)) v e in
          rw found.1 (reference_of_lt (number_at s 0 6) (ltb-false 299 (extension_of (number_at s 0 6)) found.0.1.0));
      round_trips = round_trips;
      around = around;
      wrapped = wrapped;
      turns = turns;
    }
