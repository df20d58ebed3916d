-- What is claimed of the definitions and the promises, and proved.
use Rattle.std.specs.Prelude.{List, ℕ}
use Rattle.ground.specs.Outcome.{Determined}
use Rattle.section.specs.Promises.{SaysLength, SaysTable, SaysSize}

pub record Claims : Type 0 where
  -- any two outcomes that a promise admits are equal
  pub says_length : (second third : ℕ) → Determined (SaysLength second third)
  pub says_table : (bytes : List ℕ) (place : ℕ) → Determined (SaysTable bytes place)
  pub says_size : (bytes : List ℕ) (place : ℕ) → Determined (SaysSize bytes place)
