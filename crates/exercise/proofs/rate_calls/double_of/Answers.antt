-- With its sign's bit taken off, a pattern that is no more than infinity's is no NaN's.
-- Assumes nothing.
use Rattle.std.proofs.Common.{◌%◌, arith, le-ltb}
use lib.Ieee.{binary64}
use lib.Ieee.Bits.{nan_bits_above}
use Rattle.exercise.proofs.rate_calls.double_of.Goals as goal

pub float_from_bits-result : goal.float_from_bits-result
float_from_bits-result c =
    let bits = c.args.bits in
    rw (nan_bits_above binary64 bits, le-ltb 0x7FF0000000000000 (bits % 0x8000000000000000) (omega arith)) tt
