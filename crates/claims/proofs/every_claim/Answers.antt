-- The answer is true by computation, and the claims are proved in Claims.antt.
-- Assumes nothing.
use mathlib.Core.Path.{refl}
use Rattle.claims.proofs.Claims.{every_claim}
use Rattle.claims.proofs.every_claim.Goals as goal

pub returns : goal.returns
returns c = (refl, every_claim)
