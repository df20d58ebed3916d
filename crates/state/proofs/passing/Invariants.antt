-- The places are passed one by one: each bit is that of the test's answer, and those above are still 0.
-- Assumes nothing.
use mathlib.Core.Path.{◌≡◌}
use mathlib.Core.Bool.{Bool, false}
use mathlib.Core.List.{List}
use Prim.Native.Nat.{ℕ, ◌<◌, ◌^◌}
use lib.ListN.{length, get_or}
use Rattle.state.proofs.Places.{Passed}
use Rattle.state.proofs.passing.Given as goal

abbrev pub invariant-loop-place : goal.invariant-loop-place
invariant-loop-place g l =
    (l.set < 2 ^ l.place)
    × ((m : List Bool) → length m ≡ 32 → ((place : ℕ) (b : Bool) → place < 32 → goal.F-post g l.passes place b → b ≡ get_or m place false) → Passed (λ b. b) m l.place l.set)
