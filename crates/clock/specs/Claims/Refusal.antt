-- Document 01, "What the proofs have to say": "the refusal table is exact", of each table about time.
use Rattle.std.specs.Prelude.{ℕ, List}
use Rattle.ground.specs.Refusal.{Row, Exact, ExactCall}
use Rattle.clock.specs.Written.{Wrote, unwritten}
use Rattle.clock.specs.Stamp.{stamp_read_refusals, read_stamp, any_stamp_refusals, read_any_stamp, stamp_write_refusals, write_stamp}
use Rattle.clock.specs.Reference.{reference_read_refusals, read_reference, reference_write_refusals, write_reference}
use Rattle.clock.specs.Difference.{stamp_difference_refusals, stamp_difference, reference_forward_refusals, reference_forward}

-- a write into the bytes s, by its table: "A refusal .. writes nothing"
abbrev pub ExactWrite : List ℕ → List Row → Wrote → Type 0
ExactWrite s rows w = ExactCall rows (λ (x : Wrote). x.answer) (unwritten s) w

pub record Refusals : Type 0 where
  -- "Reading a lone field: 40 (prefix), 41, 36 or 8", of a stamp
  pub stamp_read : (s : List ℕ) (prefix : ℕ) → Exact (stamp_read_refusals s prefix) (read_stamp s prefix)
  -- the same of a stamp behind any four bits: 41, 36
  pub any_stamp_read : (s : List ℕ) → Exact (any_stamp_refusals s) (read_any_stamp s)
  -- the same of a clock reference
  pub reference_read : (s : List ℕ) → Exact (reference_read_refusals s) (read_reference s)
  -- "Writing one: 40, 41", of a stamp
  pub stamp_written : (s : List ℕ) (prefix v : ℕ) → ExactWrite s (stamp_write_refusals s prefix v) (write_stamp s prefix v)
  -- the same of a clock reference
  pub reference_written : (s : List ℕ) (v : ℕ) → ExactWrite s (reference_write_refusals s v) (write_reference s v)
  -- "A difference: 40", of two stamps
  pub stamps_apart : (a b : ℕ) → Exact (stamp_difference_refusals a b) (stamp_difference a b)
  -- the same of two clock references
  pub references_ahead : (a b : ℕ) → Exact (reference_forward_refusals a b) (reference_forward a b)
