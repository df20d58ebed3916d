-- What is claimed of the promises, and proved.
use Rattle.std.specs.Prelude.{List, ℕ}
use Rattle.ground.specs.Outcome.{Determined}
use Rattle.octets.specs.Promises.{ReadsTwo, ReadsThree, ReadsFive, ReadsSix, ReadsByte, GivesLesser, GoesFurther}

pub record Claims : Type 0 where
  -- any two outcomes that a promise admits are equal
  pub reads_two : (a b : ℕ) → Determined (ReadsTwo a b)
  pub reads_three : (a b c : ℕ) → Determined (ReadsThree a b c)
  pub reads_five : (a b c d e : ℕ) → Determined (ReadsFive a b c d e)
  pub reads_six : (a b c d e f : ℕ) → Determined (ReadsSix a b c d e f)
  pub reads_byte : (bytes : List ℕ) (place : ℕ) → Determined (ReadsByte bytes place)
  pub gives_lesser : (a b : ℕ) → Determined (GivesLesser a b)
  pub goes_further : (place bytes end : ℕ) → Determined (GoesFurther place bytes end)
