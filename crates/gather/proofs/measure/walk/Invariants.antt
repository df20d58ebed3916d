-- `walk` goes from section to section: what was passed and what the rest gives are together what all gives, and each whole section takes bytes from the rest.
-- Assumes nothing.
use Rattle.gather.proofs.Sized.{walked, grown}
use lib.ListN.{length, drop}
use Prim.Native.Nat.{◌-◌, ◌≤◌}
use mathlib.Core.Path.{◌≡◌}
use Rattle.gather.proofs.measure.walk.Given as goal

abbrev pub invariant-loop-n : goal.invariant-loop-n
invariant-loop-n l =
    (l.bytes ≤ length l.s) × (l.sections ≤ l.bytes)
    × (walked l.s ≡ grown l.sections l.bytes (walked (drop l.bytes l.s)))

abbrev pub decreases-loop-n : goal.decreases-loop-n
decreases-loop-n l = length l.s - l.bytes
