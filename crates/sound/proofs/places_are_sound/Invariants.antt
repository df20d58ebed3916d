-- The pass finds the places in range, the numbers apart and the users counted, or a place that makes one of the first two false.
-- Assumes nothing.
use Rattle.sound.proofs.Pass.{Passed}
use Rattle.sound.proofs.places_are_sound.Given as goal

abbrev pub invariant-loop-i : goal.invariant-loop-i
invariant-loop-i l = Passed l.next l.filters l.counts l.met l.numbers l.i
