-- The promise is an equation, and the residue is the number of the delay elements.
-- Assumes nothing.
use Rattle.ground.proofs.Outcome.{determined}
use Rattle.crc.specs.Figure.{residue_of}
use Rattle.crc.specs.Claims.{Claims}
use Rattle.crc.proofs.Bridge.{right_residue}
use Rattle.crc.proofs.Examples.{pat, digits}

pub claims : Claims
claims = record { gives_residue = λ s. determined (residue_of s); right_residue = right_residue; pat = pat; digits = digits }
