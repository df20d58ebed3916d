-- The answer is true by computation, and what is claimed is proved in ClockSums.antt.
-- Assumes nothing.
use Rattle.std.proofs.Common.{refl}
use Rattle.clock.proofs.ClockSums.{clock_sums}
use Rattle.clock.proofs.sums.clock_sums.Goals as goal

pub returns : goal.returns
returns c = (refl, clock_sums)
