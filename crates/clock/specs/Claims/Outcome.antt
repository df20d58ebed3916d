-- Document 01, "What the proofs have to say": "any two outcomes it admits are shown equal", of each public call's promise.
use Rattle.std.specs.Prelude.{ℕ, List}
use Rattle.ground.specs.Outcome.{Determined, Stated}
use Rattle.clock.specs.Promises.{ReadsStamp, ReadsAnyStamp, WritesStamp, TellsApart, ReadsReference, WritesReference, TellsAhead}
use Rattle.clock.specs.Sums.{ClockSums}

pub record Outcomes : Type 0 where
  -- the answer to reading a stamp
  pub reads_stamp : (s : List ℕ) (prefix : ℕ) → Determined (ReadsStamp s prefix)
  -- the answer to reading one behind any four bits
  pub reads_any_stamp : (s : List ℕ) → Determined (ReadsAnyStamp s)
  -- the answer to writing one, and every lent byte after it
  pub writes_stamp : (s : List ℕ) (prefix v : ℕ) → Determined (WritesStamp s prefix v)
  -- the signed difference of two stamps
  pub tells_apart : (a b : ℕ) → Determined (TellsApart a b)
  -- the answer to reading a clock reference
  pub reads_reference : (s : List ℕ) → Determined (ReadsReference s)
  -- the answer to writing one, and every lent byte after it
  pub writes_reference : (s : List ℕ) (v : ℕ) → Determined (WritesReference s v)
  -- the forward difference of two clock references
  pub tells_ahead : (a b : ℕ) → Determined (TellsAhead a b)
  -- the function that states how intervals add up
  pub clock_sums : Determined (Stated ClockSums)
