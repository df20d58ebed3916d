-- Every place passed, from the last one down, is all zero.
-- Assumes nothing.
use mathlib.Core.Path.{◌≡◌}
use Prim.Native.Nat.{ℕ, ◌<◌, ◌≤◌}
use lib.ListN.{get_or}
use Rattle.state.specs.State.{free_filter}
use Rattle.sound.proofs.end_of_places.Given as goal

abbrev pub invariant-loop-i : goal.invariant-loop-i
invariant-loop-i l = (k : ℕ) → k < 32 → l.i ≤ k → get_or l.filters k free_filter ≡ free_filter
