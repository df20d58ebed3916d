-- The answer is true by computation, and the cases are proved in Stars.antt.
-- Assumes nothing.
use mathlib.Core.Path.{refl}
use Rattle.stars.proofs.Stars.{stars}
use Rattle.stars.proofs.every_case.Goals as goal

pub returns : goal.returns
returns c = (refl, stars)
