-- Both numbers are at most 2^53, so that the quotient of their doubles is the double nearest to their fraction.
-- Assumes nothing.
use native.Mathlib.Omega.{arith}
use lib.Ieee.{binary64}
use Rattle.rates.proofs.Quotient.{whole_quotient}
use Rattle.rates.proofs.byte_rate.Goals as goal

pub returns : goal.returns
returns c = whole_quotient binary64 _ _ (omega arith) (omega arith) (omega arith)
