-- An optional header whose rows before the stamps do not apply reads as its stamps read.
-- Assumes nothing.
use mathlib.Core.Path.{◌≡◌}
use mathlib.Core.Bool.{false}
use mathlib.Core.List.{List}
use Prim.Native.Nat.{ℕ, ◌+◌, ◌≤◌}
use borrow.Author.Tests.{le-ltb, eq-eqb, ne_eqb, ltb-false}
use lib.Dec.{ltb}
use lib.ListN.{length, get_or}
use Rattle.ground.specs.Number.{bits}
use Rattle.pes.specs.Stamps.{Times, stamp_refusals, stamps_of}
use Rattle.pes.specs.Steps.{read_stamps, read_optional}
use Rattle.pes.specs.Header.{HeaderContents, full, full_of, packet_length_of, header_length_of, second_flags, code_of, fields_size, passes_length}
use Rattle.ground.proofs.Judged.{mapped, judge_mapped}
use Rattle.ground.proofs.Test.{neither}

-- a header with these stamps
abbrev pub with_stamps : List ℕ → Times → HeaderContents
with_stamps s times = full (full_of s times)

pub after_lengths : (s : List ℕ) → 9 ≤ length s → bits (get_or s 6 0) 6 2 ≡ 2 → (code_of (second_flags s) ≡ 1 → ⊥)
    → passes_length (packet_length_of s) (fields_size (second_flags s)) (header_length_of s) ≡ false → 9 + header_length_of s ≤ length s
    → read_optional s ≡ mapped (with_stamps s) (read_stamps s (code_of (second_flags s)))
after_lengths s size mark code fit whole =
    rw (le-ltb (length s) 9 size, eq-eqb (bits (get_or s 6 0) 6 2) 2 mark, ne_eqb (code_of (second_flags s)) 1 code, fit, le-ltb (length s) (9 + header_length_of s) whole)
    (judge_mapped (with_stamps s) (stamp_refusals s (code_of (second_flags s))) (stamps_of s (code_of (second_flags s))))

-- fields that are not over the header length are at most as long
pub fields_fit : (packet fields header : ℕ) → passes_length packet fields header ≡ false → fields ≤ header
fields_fit packet fields header e = ltb-false header fields (neither (ltb header fields) _ e).0
