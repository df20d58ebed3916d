-- The promise is an equation with a definition, so its outcome is one.
-- Assumes nothing.
use Rattle.ground.proofs.Outcome.{determined}
use Rattle.sound.specs.Sound.{sound}
use Rattle.sound.specs.Claims.{Claims}

pub claims : Claims
claims = record { tells_sound = λ s. determined (sound s) }
