-- The pass finds each record sound by itself, the users as counted and the PIDs apart, or an area that makes one of the three clauses false.
-- Assumes nothing.
use Rattle.sound.proofs.Areas.{Passed}
use Rattle.sound.proofs.areas_are_sound.Given as goal

abbrev pub invariant-loop-i : goal.invariant-loop-i
invariant-loop-i l = Passed l.counts l.areas l.pids l.i
