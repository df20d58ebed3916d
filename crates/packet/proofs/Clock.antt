-- A clock reference of the packet is the lone field in the part from its place on.
-- Assumes nothing.
use mathlib.Core.Path.{◌≡◌}
use mathlib.Core.Bool.{true}
use mathlib.Core.List.{List, [], ◌∷◌}
use Prim.Native.Nat.{ℕ, ◌+◌, ◌≤◌}
use lib.Dec.{ltb}
use lib.ListN.{length, drop}
use Rattle.ground.specs.Number.{number_at}
use Rattle.ground.specs.Refusal.{◌when◌}
use Rattle.clock.specs.Reference.{extension_of, reference_of, read_reference}
use Rattle.std.specs.Prelude.{Some}
use Rattle.packet.specs.Steps.{read_clock}
use Rattle.ground.proofs.Judged.{mapped, judge_mapped}
use Rattle.ground.proofs.Part.{part_drop, number_at_part, part_holds}

pub clock_there : (s : List ℕ) (i : ℕ) → i + 6 ≤ length s → read_clock s i true ≡ mapped Some (read_reference (drop i s))
clock_there s i h =
    rw (← part_drop s i, part_holds s i 6 h, number_at_part s i 6)
    (judge_mapped Some ((8 when ltb 299 (extension_of (number_at s i 6))) ∷ []) (reference_of (number_at s i 6)))
