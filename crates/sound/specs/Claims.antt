-- What is claimed of the promise, and proved.
use Rattle.ground.specs.Outcome.{Determined}
use Rattle.state.specs.declared.State.{State}
use Rattle.sound.specs.Promises.{TellsSoundState}

pub record Claims : Type 0 where
  -- any two outcomes that a promise admits are equal
  pub tells_sound : (s : State) → Determined (TellsSoundState s)
