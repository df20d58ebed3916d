-- Each turn stores the next entry's four numbers: after i turns the first i of each list stand written.
-- Assumes nothing.
use mathlib.Core.Path.{◌≡◌}
use mathlib.Core.List.{List}
use Prim.Native.Nat.{ℕ}
use lib.ListN.{take}
use Rattle.ground.specs.Write.{put}
use Rattle.loops.specs.Loop.{Entry}
use Rattle.pmt.specs.Listed.{type_of, pid_of, start_of, size_of, each_of}
use Rattle.pmt.proofs.list_streams.Given as goal

-- a list in which a field of the first i entries stands written
abbrev up_to : ℕ → (Entry → ℕ) → List ℕ → List ℕ → List ℕ
up_to i field section d = put d 0 (take i (each_of field section))

abbrev pub invariant-loop-i : goal.invariant-loop-i
invariant-loop-i l =
    (l.types ≡ up_to l.i type_of l.section l.initial.types)
    × (l.pids ≡ up_to l.i pid_of l.section l.initial.pids)
    × (l.starts ≡ up_to l.i start_of l.section l.initial.starts)
    × (l.sizes ≡ up_to l.i size_of l.section l.initial.sizes)
