-- `crc::start` meets its contract: the shifts of each register are computed.
-- Assumes nothing.
use mathlib.Core.Path.{◌≡◌, refl}
use native.Mathlib.Omega.{arith}
use Rattle.crc_table.specs.Table.{shift_of}
use Rattle.crc.proofs.start.Goals as goal

pub returns-in-0 : goal.returns-in-0
unfolding shift_of
returns-in-0 c = let e : c.args.n ≡ 0 = omega arith in rw e refl

pub returns-in-1 : goal.returns-in-1
unfolding shift_of
returns-in-1 c = let e : c.args.n ≡ 1 = omega arith in rw e refl

pub returns-in-2 : goal.returns-in-2
unfolding shift_of
returns-in-2 c = let e : c.args.n ≡ 2 = omega arith in rw e refl

pub returns-in_default : goal.returns-in_default
unfolding shift_of
returns-in_default c = let e : c.args.n ≡ 3 = omega arith in rw e refl
