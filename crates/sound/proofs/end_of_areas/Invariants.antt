-- Every area passed, from the last one down, is free and all zero, and no filter was counted on it.
-- Assumes nothing.
use mathlib.Core.Path.{◌≡◌}
use mathlib.Core.Bool.{true}
use Prim.Native.Nat.{ℕ, ◌<◌, ◌≤◌}
use lib.ListN.{get_or}
use Rattle.state.specs.State.{free_area}
use Rattle.sound.specs.Steps.{is_free_area}
use Rattle.sound.proofs.end_of_areas.Given as goal

abbrev pub invariant-loop-i : goal.invariant-loop-i
invariant-loop-i l = (k : ℕ) → k < 8 → l.i ≤ k → (is_free_area (get_or l.areas k free_area) ≡ true) × (get_or l.counts k 0 ≡ 0)
