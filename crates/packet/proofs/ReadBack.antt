-- What is written in an extension's layout is read back: each part stands where the flags byte says, and each field is read back from the number that its bits make.
-- Assumes nothing.
use mathlib.Core.Path.{◌≡◌, refl, sym, ◌∙◌, ap, ap₂, subst}
use mathlib.Core.Bool.{Bool, true, false, cond, not, ◌&&◌}
use mathlib.Core.List.{List, [], ◌∷◌, ◌++◌}
use Prim.Native.Nat.{ℕ, ◌+◌, ◌*◌, ◌/◌, ◌^◌, ◌≤◌, ◌<◌}
use native.Mathlib.Nat.{zero-add, mod-lt}
use native.Mathlib.Omega.{arith}
use borrow.Author.Tests.{eq-eqb, ne_eqb, eqb-true, leb-true, le-ltb, not-false}
use lib.Dec.{eqb, lit<}
use lib.ListN.{length, get_or}
use Rattle.ground.specs.Number.{Field, field, pack, bits, is_flagged, bytes_of, number_of, number_at}
use Rattle.ground.specs.Answer.{refused, given}
use Rattle.std.specs.declared.option.Option.{Option}
use Rattle.std.specs.Prelude.{Some, None}
use Rattle.ground.specs.Perhaps.{perhaps, presence}
use Rattle.ground.specs.Refusal.{Silent}
use Rattle.ground.specs.Walk.{Every}
use Rattle.ground.proofs.Field.{Fitting, value_at, pack_lt, unpack-pack}
use Rattle.ground.proofs.Number.{length-bytes_of, bytes_at_part, number_bytes}
use Rattle.ground.proofs.Part.{Standing, standing_split}
use Rattle.ground.proofs.Perhaps.{presence_lt}
use Rattle.ground.proofs.Refused.{accepted}
use Rattle.ground.proofs.Test.{both_true, and_false}
use Rattle.clock.specs.Range.{stamp_turn}
use Rattle.clock.specs.Stamp.{stamp_field, lacks_marker}
use Rattle.clock.proofs.Field.{marked, stamp_field_lt, stamp_field_marked, stamp_of_field}
use Rattle.packet.specs.Part.{Span}
use Rattle.packet.specs.Extension.{LegalWindow, SeamlessSplice, Extended, flagged_size, rate_place, splice_place, window_of, rate_of, splice_of, extended_at, is_wrong_splice, extended_in, is_cramped, has_wrong_splice}
use Rattle.packet.specs.Adaptation.{has_field, has_flags, flags_of, length_of, extension_part}
use Rattle.packet.specs.Packet.{header_of, control_of, contents, packet_refusals, read_packet}
use Rattle.packet.specs.Claims.Accepted.{told_size, Ranged}
use Rattle.packet.specs.Claims.Extension.{spelt, window_bytes, rate_bytes, splice_bytes, flags_byte, Spelt, plain_refusals, ReadBack, AsBefore}
use Rattle.packet.proofs.Accepted.{extension_inside}
use Rattle.packet.proofs.Extended.{spelt_size}
use Rattle.packet.proofs.Field.{field_ends}

-- ---- each field is read back from its number
abbrev window_fields : LegalWindow → List Field
window_fields w = field 1 (cond w.valid 1 0) ∷ field 15 w.offset ∷ []

bit_lt : (b : Bool) → cond b 1 0 < 2
bit_lt true = omega arith
bit_lt false = omega arith

bit_back : (b : Bool) → eqb (cond b 1 0) 1 ≡ b
bit_back true = refl
bit_back false = refl

window_back : (w : LegalWindow) → w.offset < 2 ^ 15 → window_of (pack (window_fields w)) ≡ w
window_back w h =
    let parts = unpack-pack (window_fields w) (bit_lt w.valid, (h, tt)) in
    rw (ap (value_at 0) parts, ap (value_at 1) parts, bit_back w.valid)

rate_back : (a n : ℕ) → a < 2 ^ 2 → n < 2 ^ 22 → rate_of (pack (field 2 a ∷ field 22 n ∷ [])) ≡ n
rate_back a n small h = ap (value_at 1) (unpack-pack (field 2 a ∷ field 22 n ∷ []) (small, (h, tt)))

splice_back : (y : SeamlessSplice) → y.splice_type < 2 ^ 4 → y.stamp < stamp_turn → splice_of (stamp_field y.splice_type y.stamp) ≡ y
splice_back y small h =
    rw ((marked _ y.splice_type (stamp_field_marked y.splice_type y.stamp small)).0, stamp_of_field y.splice_type y.stamp small h)

-- ---- in a list where it stands
module _ (s : List ℕ) where
  -- a number that stands at a place is read there
  number_standing : (i k n : ℕ) → i + k ≤ length s → n < 256 ^ k → Standing s i (bytes_of k n) → number_at s i k ≡ n
  number_standing i k n room small h =
      let Some = rw (length-bytes_of k n) at h in
      ap number_of (bytes_at_part s i k room ∙ Some) ∙ number_bytes k n small

  -- a part is there where its flag says, with the value that is read at its place
  part_back : {A : Type 0} (f after : ℕ) (z : A) (y : Option A) → bits f after 1 ≡ presence y → ((own : A) → y ≡ Some own → z ≡ own) → perhaps (is_flagged f after) z ≡ y
  part_back f after z (Some own) e same = rw (eq-eqb (bits f after 1) 1 e) (ap Some (same own refl))
  part_back f after z None e same = rw (ne_eqb (bits f after 1) 1 (λ q. omega arith))

  -- the whole extension
  module _ (i : ℕ) (x : Extended) (ranged : Ranged x) (room : i + told_size x ≤ length s) (told : Spelt s i x) where
    abbrev f : ℕ
    f = get_or s i 0

    abbrev flags : List Field
    flags = field 1 (presence x.window) ∷ field 1 (presence x.rate) ∷ field 1 (presence x.splice) ∷ field 5 told.of_flags ∷ []

    fits : Every Fitting flags
    fits = (presence_lt x.window, (presence_lt x.rate, (presence_lt x.splice, (told.five_bits, tt))))

    abbrev window : List ℕ
    window = spelt window_bytes x.window

    abbrev rate : List ℕ
    rate = spelt (rate_bytes told.of_rate) x.rate

    abbrev splice : List ℕ
    splice = spelt splice_bytes x.splice

    -- each stands behind the one before it
    first : Standing s i (flags_byte told.of_flags x) × Standing s (i + 1) (window ++ (rate ++ splice))
    first = standing_split s i (flags_byte told.of_flags x) (window ++ (rate ++ splice)) told.same

    second : Standing s (i + 1) window × Standing s (i + 1 + length window) (rate ++ splice)
    second = standing_split s (i + 1) window (rate ++ splice) first.1

    third : Standing s (i + 1 + length window) rate × Standing s (i + 1 + length window + length rate) splice
    third = standing_split s (i + 1 + length window) rate splice second.1

    -- the flags byte
    flags_back : f ≡ pack flags
    flags_back =
        let inside : i + 1 ≤ length s = omega arith in
        rw zero-add at (number_standing i 1 (pack flags) inside (pack_lt flags fits) first.0)

    flagged : (after : ℕ) (index : ℕ) → bits (pack flags) after 1 ≡ value_at index flags → bits f after 1 ≡ value_at index flags
    flagged after index e = ap (λ (n : ℕ). bits n after 1) flags_back ∙ e

    window_bit : bits f 7 1 ≡ presence x.window
    window_bit = flagged 7 0 (ap (value_at 0) (unpack-pack flags fits))

    rate_bit : bits f 6 1 ≡ presence x.rate
    rate_bit = flagged 6 1 (ap (value_at 1) (unpack-pack flags fits))

    splice_bit : bits f 5 1 ≡ presence x.splice
    splice_bit = flagged 5 2 (ap (value_at 2) (unpack-pack flags fits))

    -- so the parts begin where the definitions say
    rate_place_lem : i + 1 + length window ≡ rate_place i f
    rate_place_lem = ap (λ (n : ℕ). i + 1 + n) (spelt_size window_bytes 2 (λ w. refl) x.window ∙ ap (λ (n : ℕ). 2 * n) (sym window_bit))

    splice_place_lem : i + 1 + length window + length rate ≡ splice_place i f
    splice_place_lem = ap₂ (λ (a b : ℕ). a + b) rate_place_lem (spelt_size (rate_bytes told.of_rate) 3 (λ n. refl) x.rate ∙ ap (λ (n : ℕ). 3 * n) (sym rate_bit))

    pub size_back : flagged_size f ≡ told_size x
    size_back = rw (window_bit, rate_bit, splice_bit)

    -- and their numbers are those that were written
    window_number : (w : LegalWindow) → x.window ≡ Some w → number_at s (i + 1) 2 ≡ pack (window_fields w)
    window_number w e =
        let one : presence x.window ≡ 1 = ap presence e in
        number_standing (i + 1) 2 (pack (window_fields w)) (omega arith) (pack_lt (window_fields w) (bit_lt w.valid, (ranged.window w e, tt)))
        (subst (λ (y : Option LegalWindow). Standing s (i + 1) (spelt window_bytes y)) e second.0)

    rate_number : (n : ℕ) → x.rate ≡ Some n → number_at s (rate_place i f) 3 ≡ pack (field 2 told.of_rate ∷ field 22 n ∷ [])
    rate_number n e =
        let one : presence x.rate ≡ 1 = ap presence e in
        let place = window_bit in
        number_standing (rate_place i f) 3 (pack (field 2 told.of_rate ∷ field 22 n ∷ [])) (omega arith)
        (pack_lt (field 2 told.of_rate ∷ field 22 n ∷ []) (told.two_bits, (ranged.rate n e, tt)))
        (subst (λ (y : Option ℕ). Standing s (rate_place i f) (spelt (rate_bytes told.of_rate) y)) e (rw rate_place_lem at third.0))

    splice_number : (y : SeamlessSplice) → x.splice ≡ Some y → number_at s (splice_place i f) 5 ≡ stamp_field y.splice_type y.stamp
    splice_number y e =
        let one : presence x.splice ≡ 1 = ap presence e in
        let place = window_bit in
        let further = rate_bit in
        number_standing (splice_place i f) 5 (stamp_field y.splice_type y.stamp) (omega arith)
        (stamp_field_lt y.splice_type y.stamp (ranged.splice y e).0)
        (subst (λ (z : Option SeamlessSplice). Standing s (splice_place i f) (spelt splice_bytes z)) e (rw splice_place_lem at third.1))

    pub extended_back : extended_at s i f ≡ x
    extended_back =
        rw (
          part_back f 7 (window_of (number_at s (i + 1) 2)) x.window window_bit (λ w e. ap window_of (window_number w e) ∙ window_back w (ranged.window w e)),
          part_back f 6 (rate_of (number_at s (rate_place i f) 3)) x.rate rate_bit (λ n e. ap rate_of (rate_number n e) ∙ rate_back told.of_rate n told.two_bits (ranged.rate n e)),
          part_back f 5 (splice_of (number_at s (splice_place i f) 5)) x.splice splice_bit
              (λ y e. ap splice_of (splice_number y e) ∙ splice_back y (ranged.splice y e).0 (ranged.splice y e).1),
        )

    -- the splice's markers are right
    pub splice_right : is_wrong_splice s i f ≡ false
    splice_right = go x.splice refl
      where
        go : (y : Option SeamlessSplice) → x.splice ≡ y → (is_flagged f 5 && lacks_marker (number_at s (splice_place i f) 5)) ≡ false
        go (Some y) e =
            let right = (marked _ y.splice_type (stamp_field_marked y.splice_type y.stamp (ranged.splice y e).0)).1 in
            rw (splice_number y e, right) (and_false (is_flagged f 5))
        go None e =
            let none : presence x.splice ≡ 0 = ap presence e in
            rw (ne_eqb (bits f 5 1) 1 (λ q. let bit = splice_bit in omega arith))

-- ---- of a packet: the two rows more let it pass where document 01's own do
module _ (s : List ℕ) where
  abbrev part : Option Span
  part = extension_part s (flags_of (control_of (header_of s)) s)

  widened : Silent (plain_refusals s) → is_cramped s part ≡ false → has_wrong_splice s part ≡ false → read_packet s ≡ given (contents s)
  widened rows roomy right =
      accepted refused (given (contents s)) (packet_refusals s) (
        rows.0,
        (rows.1.0, (rows.1.1.0, (rows.1.1.1.0, (rows.1.1.1.1.0, (rows.1.1.1.1.1.0, (roomy, (rows.1.1.1.1.1.1.0, (rows.1.1.1.1.1.1.1.0, (right, tt))))))))),
      )

  -- an extension of such a packet lies in it
  lies_inside : Silent (plain_refusals s) → (span : Span) → part ≡ Some span → span.start + span.size ≤ length s
  lies_inside rows span h =
      let long = eqb-true (length s) 188 (not-false (eqb (length s) 188) rows.0) in
      let inside = extension_inside s (has_flags (control_of (header_of s)) s) rows.1.1.1.1.1.0 span h in
      let has = leb-true 2 (control_of (header_of s)) (both_true (has_field (control_of (header_of s))) (not (eqb (length_of s) 0)) inside.0).0 in
      let ends = field_ends (control_of (header_of s)) (length_of s) has (mod-lt (header_of s / 2 ^ 4) (lit< tt)) rows.1.1.1.1.0 in
      omega (arith, inside.1)

pub read_back : ReadBack
read_back s span x rows h ranged size told =
    let inside = lies_inside s rows span h in
    let room : span.start + told_size x ≤ length s = omega arith in
    let same = size_back s span.start x ranged room told in
    let roomy : is_cramped s (part s) ≡ false = rw h (le-ltb span.size (flagged_size (get_or s span.start 0)) (rw same size)) in
    let right : has_wrong_splice s (part s) ≡ false = rw h (splice_right s span.start x ranged room told) in
    (widened s rows roomy right, ap (extended_in s) h ∙ extended_back s span.start x ranged room told)

pub as_before : AsBefore
as_before s h = (rw h, ap (extended_in s) h)
