-- The answer is true by computation, and what is claimed is proved in RateLaws.antt.
-- Assumes nothing.
use mathlib.Core.Path.{refl}
use Rattle.rates.proofs.RateLaws.{rate_laws}
use Rattle.rates.proofs.laws.rate_laws.Goals as goal

pub returns : goal.returns
returns c = (refl, rate_laws)
