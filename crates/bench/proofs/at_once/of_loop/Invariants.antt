-- A descriptor starts behind its place and inside the bytes, so that less is left behind it.
-- Assumes nothing.
use Rattle.std.proofs.Common.{◌-◌, length}
use Rattle.bench.proofs.at_once.of_loop.Given as goal

abbrev pub decreases-loop-place : goal.decreases-loop-place
decreases-loop-place l = length l.bytes - l.at
