-- The answer is true by computation, and what is claimed is proved in BufferLaws.antt.
-- Assumes nothing.
use mathlib.Core.Path.{refl}
use Rattle.buffer.proofs.BufferLaws.{buffer_laws}
use Rattle.buffer.proofs.laws.buffer_laws.Goals as goal

pub returns : goal.returns
returns c = (refl, buffer_laws)
