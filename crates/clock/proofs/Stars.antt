-- The ★ cases about time hold: antt computes each.
-- Assumes nothing.
use Rattle.std.proofs.Common.{refl}
use Rattle.ground.specs.Walk.{Every}
use Rattle.ground.specs.Write.{put}
use Rattle.clock.specs.Stars.{Right, cases}

pub stars : Every Right cases
unfolding put
stars = (refl, (refl, (refl, (refl, (refl, (refl, (refl, (refl, tt))))))))
