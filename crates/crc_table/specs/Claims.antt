-- What is claimed of the promise, and proved.
use Rattle.std.specs.Prelude.{ℕ}
use Rattle.ground.specs.Outcome.{Determined}
use Rattle.crc_table.specs.Promises.{GivesThrough}

pub record Claims : Type 0 where
  -- any two outcomes that the promise admits are equal
  pub gives_through : (register : ℕ) → Determined (GivesThrough register)
