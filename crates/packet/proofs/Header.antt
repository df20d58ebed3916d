-- A packet whose header is in order reads as its adaptation field reads.
-- Assumes nothing.
use mathlib.Core.Path.{◌≡◌}
use mathlib.Core.Bool.{false}
use mathlib.Core.List.{List}
use Prim.Native.Nat.{ℕ}
use borrow.Author.Tests.{eq-eqb, ne_eqb}
use lib.ListN.{length, get_or}
use Rattle.packet.specs.Adaptation.{field_refusals, field_of}
use Rattle.packet.specs.Steps.{read_field}
use Rattle.packet.specs.Packet.{header_of, is_error, control_of, contents_of, read_packet}
use Rattle.ground.proofs.Judged.{mapped, judge_mapped}

pub after_header : (s : List ℕ) → length s ≡ 188 → get_or s 0 0 ≡ 0x47 → is_error (header_of s) ≡ false → (control_of (header_of s) ≡ 0 → ⊥)
    → read_packet s ≡ mapped (contents_of (header_of s)) (read_field (control_of (header_of s)) s)
after_header s size sync sound control =
    rw (eq-eqb (length s) 188 size, eq-eqb (get_or s 0 0) 0x47 sync, sound, ne_eqb (control_of (header_of s)) 0 control)
    (judge_mapped (contents_of (header_of s)) (field_refusals (control_of (header_of s)) s) (field_of (control_of (header_of s)) s))
