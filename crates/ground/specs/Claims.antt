-- What is claimed of the refusals' names, and proved.
use Rattle.std.specs.Prelude.{◌≡◌}
use Rattle.ground.specs.Outcome.{Determined}
use Rattle.ground.specs.Promises.{TellsNumber}
use Rattle.ground.specs.Told.{number_of}
use Rattle.ground.specs.declared.Refusal.{Refusal}

pub record Claims : Type 0 where
  -- any two outcomes that the promise admits are equal
  pub tells_number : (e : Refusal) → Determined (TellsNumber e)
  -- no two names have one number
  pub numbers_apart : (e f : Refusal) → number_of e ≡ number_of f → e ≡ f
