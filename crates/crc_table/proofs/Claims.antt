-- A promise that is an equation leaves one outcome.
-- Assumes nothing.
use Rattle.ground.proofs.Outcome.{determined}
use Rattle.crc_table.specs.Table.{shifts}
use Rattle.crc_table.specs.Claims.{Claims}

pub claims : Claims
claims = record { gives_through = λ register. determined (shifts 32 register) }
