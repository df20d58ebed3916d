-- A stamp of the header is the lone field in the part from its place on.
-- Assumes nothing.
use mathlib.Core.Path.{◌≡◌}
use mathlib.Core.Bool.{false}
use mathlib.Core.List.{List, [], ◌∷◌}
use Prim.Native.Nat.{ℕ, ◌+◌, ◌-◌, ◌≤◌}
use lib.ListN.{length, take, drop}
use Rattle.ground.specs.Answer.{refused, given}
use Rattle.ground.specs.Refusal.{judge}
use Rattle.clock.specs.Stamp.{is_no_prefix, read_stamp}
use Rattle.pes.specs.Stamps.{stamp_refusal, stamp_at}
use Rattle.ground.proofs.Part.{number_at_part, part_holds}

pub stamp_part : (s : List ℕ) (i prefix : ℕ) → is_no_prefix prefix ≡ false → i + 5 ≤ length s
    → read_stamp (take (length s - i) (drop i s)) prefix ≡ judge refused (stamp_refusal s i prefix ∷ []) (given (stamp_at s i))
stamp_part s i prefix named h = rw (named, part_holds s i 5 h, number_at_part s i 5)
