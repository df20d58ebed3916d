-- An accepted packet passed every row of the table, and each row's test bounds what it looks at.
-- Assumes nothing.
use mathlib.Core.Path.{◌≡◌, refl, sym, ◌∙◌, ap, subst}
use mathlib.Core.Bool.{Bool, true, false, cond, not, ◌&&◌}
use mathlib.Core.List.{List}
use Prim.Native.Nat.{ℕ, ◌+◌, ◌-◌, ◌/◌, ◌^◌, ◌≤◌, ◌<◌}
use native.Mathlib.Nat.{mod-lt}
use native.Mathlib.Omega.{arith}
use borrow.Author.Tests.{ltb-false, eqb-true, eqb-false, not-false}
use lib.Dec.{eqb, lit<}
use lib.ListN.{length, get_or, drop, length-drop}
use Rattle.ground.specs.Number.{number_at, is_flagged}
use Rattle.ground.specs.Refusal.{Silent}
use Rattle.ground.proofs.Judged.{given_by}
use Rattle.ground.proofs.Test.{both_true}
use Rattle.clock.proofs.Field.{reference_of_lt}
use Rattle.clock.specs.Range.{reference_turn}
use Rattle.clock.specs.Reference.{extension_of, reference_of}
use Rattle.std.specs.Prelude.{Some}
use Rattle.packet.specs.Part.{Span, part_at, part_size}
use Rattle.packet.specs.Extension.{is_cramped}
use Rattle.packet.specs.Adaptation.{extension_part, value_refusals, has_field, has_flags, flags_of, length_of, is_wrong_clock, is_over, clock_at, private_place, extension_place, fields_end}
use Rattle.packet.specs.Packet.{Contents, header_of, control_of, contents, packet_refusals}
use Rattle.packet.specs.Payload.{start_after, start_of, payload_start}
use Rattle.packet.specs.Claims.Accepted.{extended_of, Accepted, EveryAccepted, InRange}
use Rattle.packet.specs.Claims.Extension.{Spelt, NothingLost}
use Rattle.packet.proofs.Field.{Shape, size_by, shape}
use Rattle.packet.proofs.Extended.{there_exactly, told_inside, ranged, extended_again}

-- ---- clock references
clock_small : (s : List ℕ) (i : ℕ) (flagged : Bool) → is_wrong_clock s i flagged ≡ false → InRange (clock_at s i flagged)
clock_small s i true e v h =
    let small = reference_of_lt (number_at s i 6) (ltb-false 299 (extension_of (number_at s i 6)) e) in
    let same : reference_of (number_at s i 6) ≡ v = cc in
    subst (λ (x : ℕ). x < reference_turn) same small
clock_small s i false e v h = let z : ◌≡◌ {A = ℕ} 0 1 = cc in absurd (omega arith)

-- ---- private data and extension
part_end : (s : List ℕ) (i : ℕ) (flagged : Bool) (span : Span) → part_at s i flagged ≡ Some span → span.start + span.size ≡ i + part_size (part_at s i flagged)
part_end s i true span h =
    let start : i + 1 ≡ span.start = cc in
    let size : get_or s i 0 ≡ span.size = cc in
    omega arith
part_end s i false span h = let z : ◌≡◌ {A = ℕ} 0 1 = cc in absurd (omega arith)

-- where the flags byte is there the parts end in the field, and where it is not there are none
module _ (s : List ℕ) where
  abbrev flags_if : Bool → ℕ
  flags_if b = cond b (get_or s 5 0) 0

  own_inside : (b : Bool) → (b && is_over s (flags_if b)) ≡ false → (span : Span) → part_at s (private_place (flags_if b)) (is_flagged (flags_if b) 1) ≡ Some span
      → (b ≡ true) × (span.start + span.size ≤ 5 + length_of s)
  own_inside true e span h =
      let fit = ltb-false (5 + length_of s) (fields_end s (get_or s 5 0)) e in
      let end = part_end s (private_place (get_or s 5 0)) (is_flagged (get_or s 5 0) 1) span h in
      (refl, omega arith)
  own_inside false e span h = let z : ◌≡◌ {A = ℕ} 0 1 = cc in absurd (omega arith)

  pub extension_inside : (b : Bool) → (b && is_over s (flags_if b)) ≡ false → (span : Span) → part_at s (extension_place s (flags_if b)) (is_flagged (flags_if b) 0) ≡ Some span
      → (b ≡ true) × (span.start + span.size ≤ 5 + length_of s)
  extension_inside true e span h =
      let fit = ltb-false (5 + length_of s) (fields_end s (get_or s 5 0)) e in
      let end = part_end s (extension_place s (get_or s 5 0)) (is_flagged (get_or s 5 0) 0) span h in
      (refl, omega arith)
  extension_inside false e span h = let z : ◌≡◌ {A = ℕ} 0 1 = cc in absurd (omega arith)

-- ---- the theorem
pub accepted : EveryAccepted
accepted s p e =
    subst (Accepted s) (sym passed.1)
    (record {
      long = long;
      pid = mod-lt (header_of s / 2 ^ 8) (lit< tt);
      scrambling = mod-lt (header_of s / 2 ^ 6) (lit< tt);
      control = (eqb-false control 0 rows.1.1.1.0, mod-lt (header_of s / 2 ^ 4) (lit< tt));
      counter = mod-lt (header_of s / 2 ^ 0) (lit< tt);
      start = start;
      inside = rw (start, long) form.0;
      whole = λ h. ((form.1 h).0, size ∙ (form.1 h).1);
      none = λ h. ((form.2 h).0, size ∙ (form.2 h).1);
      rest = λ h. let r = form.3 h in (r.0, (r.1.0, r.1.1, size ∙ r.1.2));
      pcr = clock_small s 6 (is_flagged flags 4) values.0;
      opcr = clock_small s _ (is_flagged flags 3) values.1.0;
      private_data = λ span h. before span (own_inside s (has_flags control s) over span h);
      extension = λ span h. before span (extension_inside s (has_flags control s) over span h);
      window_there = (there_exactly s (extension_part s flags)).0;
      rate_there = (there_exactly s (extension_part s flags)).1;
      splice_there = (there_exactly s (extension_part s flags)).2;
      parts = told_inside s (extension_part s flags) cramped;
      ranged = ranged s (extension_part s flags);
    })
  where
    control : ℕ
    control = control_of (header_of s)

    flags : ℕ
    flags = flags_of control s

    passed : Silent (packet_refusals s) × (p ≡ contents s)
    passed = given_by (packet_refusals s) (contents s) p e

    rows : Silent (packet_refusals s)
    rows = passed.0

    long : length s ≡ 188
    long = eqb-true (length s) 188 (not-false (eqb (length s) 188) rows.0)

    form : Shape (control_of (header_of s)) (length_of s)
    form = shape (control_of (header_of s)) (length_of s) (mod-lt (header_of s / 2 ^ 4) (lit< tt)) rows.1.1.1.1.0

    start : payload_start s ≡ start_after (size_by (control_of (header_of s)) (length_of s))
    start = ap (start_of s) e ∙ ap (λ (q : Contents). start_after q.field.size) passed.1

    size : length (drop (payload_start s) s) ≡ 188 - start_after (size_by (control_of (header_of s)) (length_of s))
    size = length-drop (payload_start s) s ∙ rw (start, long)

    over : (has_flags (control_of (header_of s)) s && is_over s (flags_of (control_of (header_of s)) s)) ≡ false
    over = rows.1.1.1.1.1.0

    cramped : is_cramped s (extension_part s (flags_of (control_of (header_of s)) s)) ≡ false
    cramped = rows.1.1.1.1.1.1.0

    values : Silent (value_refusals s (flags_of (control_of (header_of s)) s))
    values = rows.1.1.1.1.1.1.1

    before : (span : Span) → (has_flags (control_of (header_of s)) s ≡ true) × (span.start + span.size ≤ 5 + length_of s) → span.start + span.size ≤ payload_start s
    before span h = rw (start, (both_true (has_field (control_of (header_of s))) (not (eqb (length_of s) 0)) h.0).0) h.1

pub nothing_lost : NothingLost
nothing_lost s p b e span h =
    subst (λ (q : Contents). q.field.extension ≡ Some span → Spelt s span.start (extended_of q.field)) (sym passed.1)
    (λ Some. extended_again s b (extension_part s (flags_of (control_of (header_of s)) s)) rows.1.1.1.1.1.1.0 rows.1.1.1.1.1.1.1.1.1.0 span Some ends) h
  where
    passed : Silent (packet_refusals s) × (p ≡ contents s)
    passed = given_by (packet_refusals s) (contents s) p e

    rows : Silent (packet_refusals s)
    rows = passed.0

    ends : span.start + span.size ≤ length s
    ends = let whole = accepted s p e in omega (arith, whole.extension span h, whole.inside)
