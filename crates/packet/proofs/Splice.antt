-- A splice of the packet is the lone field in the part from its place on, with the type where a stamp has its prefix.
-- Assumes nothing.
use mathlib.Core.Path.{◌≡◌}
use mathlib.Core.Bool.{true}
use mathlib.Core.List.{List, [], ◌∷◌}
use Prim.Native.Nat.{ℕ, ◌+◌, ◌≤◌}
use lib.ListN.{length, drop}
use Rattle.ground.specs.Number.{number_at, is_flagged}
use Rattle.std.specs.declared.option.Option.{Option}
use Rattle.std.specs.Prelude.{Some}
use Rattle.ground.specs.Refusal.{◌when◌}
use Rattle.clock.specs.Stamp.{Prefixed, lacks_marker, prefixed_of, read_any_stamp}
use Rattle.packet.specs.Extension.{SeamlessSplice, splice_place}
use Rattle.packet.specs.Steps.{read_splice}
use Rattle.ground.proofs.Judged.{mapped, judge_mapped}
use Rattle.ground.proofs.Part.{part_drop, number_at_part, part_holds}

-- the splice of such a field
abbrev pub spliced_by : Prefixed → Option SeamlessSplice
spliced_by p = Some (record { splice_type = p.prefix; stamp = p.stamp })

pub splice_there : (s : List ℕ) (i x : ℕ) → is_flagged x 5 ≡ true → splice_place i x + 5 ≤ length s
    → read_splice s i x ≡ mapped spliced_by (read_any_stamp (drop (splice_place i x) s))
splice_there s i x flagged h =
    rw (flagged, ← part_drop s (splice_place i x), part_holds s (splice_place i x) 5 h, number_at_part s (splice_place i x) 5)
    (judge_mapped spliced_by ((36 when lacks_marker (number_at s (splice_place i x) 5)) ∷ []) (prefixed_of (number_at s (splice_place i x) 5)))
