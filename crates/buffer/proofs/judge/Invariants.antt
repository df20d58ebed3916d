-- What the records from i on make of the judging so far is what all of them make of the first one.
-- Assumes nothing.
use Rattle.std.proofs.Common.{◌≡◌, drop}
use Rattle.buffer.specs.Model.{begin_of, walked}
use Rattle.buffer.proofs.judge.Given as goal

abbrev pub invariant-loop-i : goal.invariant-loop-i
invariant-loop-i l = walked l.j l.i (drop l.i l.records) ≡ walked (begin_of l.fn.pid.0) 0 l.records
