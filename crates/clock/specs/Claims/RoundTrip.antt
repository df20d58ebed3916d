-- What was written is read back, and what was read is written again: both said of what the calls promise.
use Rattle.std.specs.Prelude.{◌≡◌, ℕ, List, Ok}
use Rattle.std.specs.declared.result.Result.{Result}
use Rattle.ground.specs.declared.Refusal.{Refusal}
use Rattle.ground.specs.Number.{Bytes, number_at}
use Rattle.clock.specs.Reference.{reserved_of}
use Rattle.clock.specs.Promises.{ReadsStamp, WritesStamp, ReadsReference, WritesReference}
use Rattle.clock.specs.declared.stamp.Stamp.{Stamp}
use Rattle.clock.specs.declared.reference.Reference.{Reference}

pub record RoundTrips : Type 0 where
  -- a stamp that was written is read back
  pub stamp_returns : (s after : List ℕ) (prefix : ℕ) (v : Stamp) (r : Result Stamp Refusal)
      → WritesStamp s prefix v.0 (Ok tt, after) → ReadsStamp after prefix r → r ≡ Ok v
  -- a stamp that was read is written again, and every byte stays
  pub stamp_stays : (s : List ℕ) (prefix : ℕ) (v : Stamp) (o : Result (Unit {0}) Refusal × List ℕ) → Bytes s
      → ReadsStamp s prefix (Ok v) → WritesStamp s prefix v.0 o → o ≡ (Ok tt, s)
  -- a clock reference that was written is read back
  pub reference_returns : (s after : List ℕ) (v : Reference) (r : Result Reference Refusal)
      → WritesReference s v.0 (Ok tt, after) → ReadsReference after r → r ≡ Ok v
  -- where the reserved bits were ones, a clock reference that was read is written again, and every byte stays
  pub reference_stays : (s : List ℕ) (v : Reference) (o : Result (Unit {0}) Refusal × List ℕ) → Bytes s → reserved_of (number_at s 0 6) ≡ 63
      → ReadsReference s (Ok v) → WritesReference s v.0 o → o ≡ (Ok tt, s)
