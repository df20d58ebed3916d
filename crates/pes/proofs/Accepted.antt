-- An accepted header passed every row of the table, and each row's test bounds what it looks at.
-- Assumes nothing.
use mathlib.Core.Path.{◌≡◌, refl, sym, subst}
use mathlib.Core.Bool.{Bool, true, false, cond}
use mathlib.Core.List.{List, [], ◌++◌}
use Prim.Native.Nat.{ℕ, ◌+◌, ◌≤◌}
use native.Mathlib.Omega.{arith}
use borrow.Author.Tests.{ltb-false, ne_eqb}
use lib.Dec.{ltb, eqb}
use lib.ListN.{length}
use Rattle.ground.specs.Answer.{given}
use Rattle.ground.specs.Number.{number_at}
use Rattle.ground.specs.Refusal.{Silent}
use Rattle.ground.proofs.Judged.{given_by}
use Rattle.ground.proofs.Test.{neither}
use Rattle.clock.proofs.Field.{stamp_of_lt}
use Rattle.pes.specs.Stream.{is_bare}
use Rattle.pes.specs.Stamps.{none, pts, both, stamps_size, stamp_at, stamps_of}
use Rattle.pes.specs.Header.{Full, full, bare, id_of, packet_length_of, header_length_of, second_flags, code_of, fields_size, passes_length, start_refusals, optional_refusals, pes_refusals, full_of, optional_of, header_contents, read_header}
use Rattle.pes.specs.Claims.Accepted.{Accepted, EveryAccepted, InRange}
use Rattle.pes.proofs.Lengths.{fields_fit}

-- a header that is read in full passed the rows of its optional header
passed : (s : List ℕ) (h : Full) → read_header s ≡ given (full h) → Silent (optional_refusals s) × (h ≡ full_of s (stamps_of s (code_of (second_flags s))))
passed s h e = let r = given_by (pes_refusals s) (header_contents s) (full h) e in go (is_bare (id_of s)) r.0 r.1
  where
    go : (b : Bool) → Silent (start_refusals s ++ cond b [] (optional_refusals s)) → full h ≡ cond b (bare (id_of s) (packet_length_of s)) (optional_of s)
        → Silent (optional_refusals s) × (h ≡ full_of s (stamps_of s (code_of (second_flags s))))
    go true silent e = let z : ◌≡◌ {A = ℕ} 0 1 = cc in absurd (omega arith)
    go false silent e = (silent.1.1.1.1.1, cc)

-- ---- lengths
counted_by : (packet fields header : ℕ) → passes_length packet fields header ≡ false → (packet ≡ 0 → ⊥) → 3 + header ≤ packet
counted_by packet fields header e some =
    ltb-false packet (3 + header) (neither (ltb header fields) (ltb packet (3 + header)) (rw (ne_eqb packet 0 some) at e)).1

both_size : (s : List ℕ) (code p d : ℕ) → stamps_of s code ≡ both p d → stamps_size code ≡ 10
both_size s code p d e = go (eqb code 3) (eqb code 2) e
  where
    go : (three two : Bool) → cond three (both (stamp_at s 9) (stamp_at s 14)) (cond two (pts (stamp_at s 9)) none) ≡ both p d
        → ◌≡◌ {A = ℕ} (cond three 10 (cond two 5 0)) 10
    go true two e = refl
    go false true e = let z : ◌≡◌ {A = ℕ} 0 1 = cc in absurd (omega arith)
    go false false e = let z : ◌≡◌ {A = ℕ} 0 1 = cc in absurd (omega arith)

-- ---- stamps
stamps_small : (s : List ℕ) (code : ℕ) → InRange (stamps_of s code)
stamps_small s code = go (eqb code 3) (eqb code 2)
  where
    go : (three two : Bool) → InRange (cond three (both (stamp_at s 9) (stamp_at s 14)) (cond two (pts (stamp_at s 9)) none))
    go true two = (stamp_of_lt (number_at s 9 5), stamp_of_lt (number_at s 14 5))
    go false true = stamp_of_lt (number_at s 9 5)
    go false false = tt

-- ---- the theorem
pub accepted : EveryAccepted
accepted s h e =
    let p = passed s h e in
    let fit = fields_fit (packet_length_of s) (fields_size (second_flags s)) (header_length_of s) p.0.1.1.1.0 in
    let there = ltb-false (length s) (9 + header_length_of s) p.0.1.1.1.1.0 in
    subst (Accepted s) (sym p.1)
    (record {
      whole = there;
      counted = counted_by (packet_length_of s) (fields_size (second_flags s)) (header_length_of s) p.0.1.1.1.0;
      long = λ a b both. let size = both_size s (code_of (second_flags s)) a b both in omega arith;
      in_range = stamps_small s (code_of (second_flags s));
    })
