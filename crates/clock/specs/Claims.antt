-- What is claimed of the definitions and the promises, and proved.
pub mod Outcome
pub mod Refusal
pub mod RoundTrip
pub mod Modulus
pub mod Turn
use Rattle.std.specs.Prelude.{◌≡◌, ℕ, ◌^◌, ◌<◌, ◌≤◌, false, ◌↔◌, List, length}
use Rattle.ground.specs.Answer.{given}
use Rattle.ground.specs.Number.{Bytes, bytes_of}
use Rattle.ground.specs.Write.{put}
use Rattle.clock.specs.Range.{stamp_turn, reference_turn}
use Rattle.clock.specs.Stamp.{Prefixed, is_no_prefix, stamp_field, read_stamp, read_any_stamp}
use Rattle.clock.specs.Reference.{read_reference}
use Rattle.clock.specs.Claims.Outcome.{Outcomes}
use Rattle.clock.specs.Claims.Refusal.{Refusals}
use Rattle.clock.specs.Claims.RoundTrip.{RoundTrips}
use Rattle.clock.specs.Claims.Modulus.{Around, Wrapped}
use Rattle.clock.specs.Claims.Turn.{Turns}

pub record Claims : Type 0 where
  -- any two outcomes that a promise admits are equal
  pub outcomes : Outcomes
  -- a refusal is given exactly when it is the first that applies
  pub refusals : Refusals
  -- "Stamp: 0 to 2^33 − 1": what is read is in range
  pub stamp_in_range : (s : List ℕ) (prefix v : ℕ) → read_stamp s prefix ≡ given v → v < stamp_turn
  -- the same behind any four bits
  pub any_stamp_in_range : (s : List ℕ) (p : Prefixed) → read_any_stamp s ≡ given p → (p.prefix < 2 ^ 4) × (p.stamp < stamp_turn)
  -- behind a prefix that a stamp has, both readings give a stamp for the same bytes, and the same one
  pub either_reading : (s : List ℕ) (prefix v : ℕ) → is_no_prefix prefix ≡ false
      → (read_stamp s prefix ≡ given v) ↔ (read_any_stamp s ≡ given (record { prefix = prefix; stamp = v }))
  -- the field of any stamp behind any four bits is read back
  pub any_stamp_returns : (s : List ℕ) (prefix v : ℕ) → prefix < 2 ^ 4 → v < stamp_turn → 5 ≤ length s
      → read_any_stamp (put s 0 (bytes_of 5 (stamp_field prefix v))) ≡ given (record { prefix = prefix; stamp = v })
  -- and what was read makes the bytes again
  pub any_stamp_stays : (s : List ℕ) (p : Prefixed) → Bytes s → read_any_stamp s ≡ given p → put s 0 (bytes_of 5 (stamp_field p.prefix p.stamp)) ≡ s
  -- "Clock reference: 0 to 2,576,980,377,599 (below 300·2^33)": what is read is in range
  pub reference_in_range : (s : List ℕ) (v : ℕ) → read_reference s ≡ given v → v < reference_turn
  -- what was written is read back, and what was read is written again
  pub round_trips : RoundTrips
  -- the difference is the one remainder that leads back, for every modulus
  pub around : (m : ℕ) → Around m
  -- a wrapped subtraction may be reduced exactly where the modulus divides the wrap, for every modulus
  pub wrapped : (m wrap : ℕ) → Wrapped m wrap
  -- both at the turns of stamps and of clock references
  pub turns : Turns
