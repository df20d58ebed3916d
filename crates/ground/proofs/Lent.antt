-- The part of lent bytes from a place to their end stands at that place of them.
-- Assumes nothing.
use mathlib.Core.Path.{◌≡◌}
use mathlib.Core.List.{List}
use Prim.Native.Nat.{ℕ, ◌+◌, ◌-◌}
use native.Mathlib.Nat.{add_comm}
use lib.ListN.{length, take, drop}
use denote.Ref.{Bor}
use Rattle.ground.specs.Lent.{Lent, lent, part_from}
use Rattle.ground.proofs.Part.{part_drop}

pub lent_part : (r : Bor (List ℕ)) (i : ℕ)
    → ◌≡◌ {A = Lent} (record { block = r.ref_ptr.0; offset = i + r.ref_ptr.1; bytes = take (length r.now - i) (drop i r.now) }) (part_from (lent r) i)
lent_part r i = rw (part_drop r.now i, add_comm i r.ref_ptr.1)
