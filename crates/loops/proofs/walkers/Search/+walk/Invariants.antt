-- The measure of the two walkers is the bytes left in the section, doubled, and one more for the descriptors, which may hand over to the entries without a step.
use Prim.Native.Nat.{◌+◌, ◌-◌, ◌*◌}
use lib.ListN.{length}
use Rattle.loops.proofs.walkers.Search.+walk.Given as goal

abbrev pub decreases-descriptors : goal.decreases-descriptors
decreases-descriptors l = 2 * (length l.body.now - l.at) + 1

abbrev pub decreases-entries : goal.decreases-entries
decreases-entries l = 2 * (length l.body.now - l.at)
