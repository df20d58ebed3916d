-- Where a payload begins, and how long it is at most.
-- Assumes nothing.
use mathlib.Core.Path.{◌≡◌}
use mathlib.Core.List.{List}
use Prim.Native.Nat.{ℕ, ◌≤◌}
use native.Mathlib.Omega.{arith}
use lib.ListN.{length, drop, length-drop}
use Rattle.std.specs.declared.option.Option.{Option}
use Rattle.std.specs.Prelude.{Some, None}
use Rattle.packet.specs.Payload.{start_after}

starts_late : (size : Option ℕ) → 4 ≤ start_after size
starts_late None = omega arith
starts_late (Some n) = omega arith

-- "payload of 184 bytes", or fewer
pub at_most_184 : (s : List ℕ) (size : Option ℕ) → length s ≡ 188 → length (drop (start_after size) s) ≤ 184
at_most_184 s size long = let late = starts_late size in rw length-drop (omega arith)
