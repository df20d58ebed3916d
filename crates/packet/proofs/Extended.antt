-- The parts of an extension: each is there exactly if it is flagged, fits its bits and lies inside n, and all of them together are made again of what is read.
-- Assumes nothing.
use mathlib.Core.Path.{◌≡◌, refl, sym, ◌∙◌, ap}
use mathlib.Core.Bool.{Bool, true, false}
use mathlib.Core.List.{List, [], ◌∷◌}
use mathlib.Core.Logic.{◌↔◌}
use Prim.Native.Nat.{ℕ, ◌+◌, ◌*◌, ◌^◌, ◌≤◌, ◌<◌}
use native.Mathlib.Nat.{zero-add, mod-eq_of_lt}
use native.Mathlib.Omega.{arith}
use borrow.Author.Tests.{ltb-false}
use lib.ListN.{length, get_or}
use Rattle.ground.specs.Number.{Bytes, bits, is_flagged, bytes_of, number_at}
use Rattle.std.specs.declared.option.Option.{Option}
use Rattle.std.specs.Prelude.{Some, None}
use Rattle.ground.specs.Perhaps.{perhaps, presence}
use Rattle.ground.proofs.Field.{bits_lt, flag_bit, pack-unpack}
use Rattle.ground.proofs.Number.{length-bytes_of, bytes-number_at, number_at_lt}
use Rattle.ground.proofs.Part.{Standing, standing_both}
use Rattle.ground.proofs.Perhaps.{none_there, if_there, presence_of, presence_exactly}
use Rattle.clock.specs.Range.{stamp_turn}
use Rattle.clock.specs.Stamp.{lacks_marker}
use Rattle.clock.proofs.Field.{stamp_of_lt, field_of_any}
use Rattle.packet.specs.Part.{Span}
use Rattle.packet.specs.Extension.{LegalWindow, SeamlessSplice, flagged_size, rate_place, splice_place, window_of, rate_of, splice_of, extended_at, extended_in, is_cramped, is_wrong_splice, has_wrong_splice}
use Rattle.packet.specs.Claims.Accepted.{Flagged, told_size, Ranged}
use Rattle.packet.specs.Claims.Extension.{spelt, window_bytes, rate_bytes, splice_bytes, flags_byte, Spelt}

-- the part that a flag tells of is there as often as the bit is set
presence_bit : {A : Type 0} (x after : ℕ) (y : A) → presence (perhaps (is_flagged x after) y) ≡ bits x after 1
presence_bit x after y = presence_of (is_flagged x after) y ∙ flag_bit x after

-- ---- each part is there exactly if the extension and its flag are
module _ (s : List ℕ) (after : ℕ) where
  none_flagged : (◌≡◌ {A = ℕ} 0 1) ↔ Flagged s None after
  none_flagged = (λ e. absurd (omega arith), λ f. let e = f.1.0 in cc)

  one_flagged : {A : Type 0} (span : Span) (y : A) → (presence (perhaps (is_flagged (get_or s span.start 0) after) y) ≡ 1) ↔ Flagged s (Some span) after
  one_flagged span y = (to, from)
    where
      to : presence (perhaps (is_flagged (get_or s span.start 0) after) y) ≡ 1 → Flagged s (Some span) after
      to h = (span, (refl, (presence_exactly (is_flagged (get_or s span.start 0) after) y).0 h))

      from : Flagged s (Some span) after → presence (perhaps (is_flagged (get_or s span.start 0) after) y) ≡ 1
      from (other, (e, flagged)) =
          let same : other ≡ span = cc in
          (presence_exactly (is_flagged (get_or s span.start 0) after) y).1 (rw same at flagged)

-- the three of them
pub there_exactly : (s : List ℕ) (e : Option Span)
    → ((presence (extended_in s e).window ≡ 1) ↔ Flagged s e 7)
    × ((presence (extended_in s e).rate ≡ 1) ↔ Flagged s e 6)
    × ((presence (extended_in s e).splice ≡ 1) ↔ Flagged s e 5)
there_exactly s None = (none_flagged s 7, none_flagged s 6, none_flagged s 5)
there_exactly s (Some span) = (one_flagged s 7 span _, one_flagged s 6 span _, one_flagged s 5 span _)

-- ---- what is told fits its bits, and the parts lie inside n
pub ranged : (s : List ℕ) (e : Option Span) → Ranged (extended_in s e)
ranged s None =
    record {
      window = λ w h. absurd (none_there w h);
      rate = λ n h. absurd (none_there n h);
      splice = λ y h. absurd (none_there y h);
    }
ranged s (Some span) =
    record {
      window = if_there (λ (w : LegalWindow). w.offset < 2 ^ 15) (is_flagged x 7) (window_of (number_at s (i + 1) 2)) (bits_lt (number_at s (i + 1) 2) 0 15);
      rate = if_there (λ (n : ℕ). n < 2 ^ 22) (is_flagged x 6) (rate_of (number_at s (rate_place i x) 3)) (bits_lt (number_at s (rate_place i x) 3) 0 22);
      splice = if_there (λ (y : SeamlessSplice). (y.splice_type < 2 ^ 4) × (y.stamp < stamp_turn)) (is_flagged x 5) (splice_of (number_at s (splice_place i x) 5))
          (bits_lt (number_at s (splice_place i x) 5) 36 4, stamp_of_lt (number_at s (splice_place i x) 5));
    }
  where
    i : ℕ
    i = span.start

    x : ℕ
    x = get_or s span.start 0

-- as many bytes are told as the flags byte says
told_size_lem : (s : List ℕ) (i x : ℕ) → told_size (extended_at s i x) ≡ flagged_size x
told_size_lem s i x = rw (presence_bit x 7, presence_bit x 6, presence_bit x 5)

pub told_inside : (s : List ℕ) (e : Option Span) → is_cramped s e ≡ false → (span : Span) → e ≡ Some span → told_size (extended_in s e) ≤ span.size
told_inside s None c span h = absurd (none_there span h)
told_inside s (Some own) c span h =
    let same : own ≡ span = cc in
    rw (told_size_lem s own.start (get_or s own.start 0), ← same) (ltb-false own.size (flagged_size (get_or s own.start 0)) c)

-- ---- a field of so many bits is made again of what is read in it
window_again : (n : ℕ) → n < 2 ^ 16 → window_bytes (window_of n) ≡ bytes_of 2 n
window_again n h = rw (flag_bit n 15) (ap (bytes_of 2) (pack-unpack (1 ∷ 15 ∷ []) n ∙ mod-eq_of_lt h))

rate_again : (n : ℕ) → n < 2 ^ 24 → rate_bytes (bits n 22 2) (rate_of n) ≡ bytes_of 3 n
rate_again n h = ap (bytes_of 3) (pack-unpack (2 ∷ 22 ∷ []) n ∙ mod-eq_of_lt h)

splice_again : (n : ℕ) → n < 2 ^ 40 → lacks_marker n ≡ false → splice_bytes (splice_of n) ≡ bytes_of 5 n
splice_again n h e = ap (bytes_of 5) (field_of_any n h e)

flags_again : (s : List ℕ) (i x : ℕ) → x < 2 ^ 8 → flags_byte (bits x 0 5) (extended_at s i x) ≡ bytes_of 1 x
flags_again s i x h =
    rw (presence_bit x 7, presence_bit x 6, presence_bit x 5)
    (ap (bytes_of 1) (pack-unpack (1 ∷ 1 ∷ 1 ∷ 5 ∷ []) x ∙ mod-eq_of_lt h))

-- ---- in a list of bytes what is told stands where it is read
-- a part that may be missing takes its bytes where it is there
pub spelt_size : {A : Type 0} (bytes : A → List ℕ) (k : ℕ) → ((z : A) → length (bytes z) ≡ k) → (y : Option A) → length (spelt bytes y) ≡ k * presence y
spelt_size bytes k e (Some z) = let size = e z in omega arith
spelt_size bytes k e None = omega arith

module _ (s : List ℕ) (b : Bytes s) where
  -- a number
  standing_number : (i k : ℕ) → i + k ≤ length s → Standing s i (bytes_of k (number_at s i k))
  standing_number i k h = rw (length-bytes_of k (number_at s i k)) (sym (bytes-number_at s i k h b))

  -- a part of k bytes that may be missing, where its bytes are made again of its number
  standing_part : {A : Type 0} (bytes : A → List ℕ) (i k : ℕ) (y : A) (flagged : Bool)
      → (flagged ≡ true → (i + k ≤ length s) × (number_at s i k < 256 ^ k → bytes y ≡ bytes_of k (number_at s i k)))
      → Standing s i (spelt bytes (perhaps flagged y))
  standing_part bytes i k y true h =
      let room = (h refl).0 in rw ((h refl).1 (number_at_lt s i k room b)) (standing_number i k room)
  standing_part bytes i k y false h = refl

  -- the whole extension
  module _ (i : ℕ) (inside : i + flagged_size (get_or s i 0) ≤ length s) (right : is_wrong_splice s i (get_or s i 0) ≡ false) where
    abbrev x : ℕ
    x = get_or s i 0

    set : (after : ℕ) → is_flagged x after ≡ true → 1 ≡ bits x after 1
    set after e = rw e at (flag_bit x after)

    flags_stand : Standing s i (flags_byte (bits x 0 5) (extended_at s i x))
    flags_stand =
        let room : i + 1 ≤ length s = omega arith in
        let small : x < 2 ^ 8 = rw zero-add at (number_at_lt s i 1 room b) in
        rw (flags_again s i x small) (rw zero-add at (standing_number i 1 room))

    window_stands : Standing s (i + 1) (spelt window_bytes (extended_at s i x).window)
    window_stands =
        standing_part window_bytes (i + 1) 2 (window_of (number_at s (i + 1) 2)) (is_flagged x 7)
        (λ e. let one = set 7 e in (omega arith, window_again (number_at s (i + 1) 2)))

    abbrev reserved : ℕ
    reserved = bits (number_at s (rate_place i x) 3) 22 2

    rate_stands : Standing s (rate_place i x) (spelt (rate_bytes reserved) (extended_at s i x).rate)
    rate_stands =
        standing_part (rate_bytes reserved) (rate_place i x) 3 (rate_of (number_at s (rate_place i x) 3)) (is_flagged x 6)
        (λ e. let one = set 6 e in (omega arith, rate_again (number_at s (rate_place i x) 3)))

    splice_stands : Standing s (splice_place i x) (spelt splice_bytes (extended_at s i x).splice)
    splice_stands =
        standing_part splice_bytes (splice_place i x) 5 (splice_of (number_at s (splice_place i x) 5)) (is_flagged x 5)
        (λ e. let one = set 5 e in (omega arith, λ l. splice_again (number_at s (splice_place i x) 5) l (rw e at right)))

    pub again : Spelt s i (extended_at s i x)
    again =
        record {
          of_flags = bits x 0 5;
          of_rate = reserved;
          five_bits = bits_lt x 0 5;
          two_bits = bits_lt (number_at s (rate_place i x) 3) 22 2;
          same = standing_both s i (flags_byte (bits x 0 5) (extended_at s i x)) _ flags_stand
              (standing_both s (i + 1) window _ window_stands (rw first (standing_both s (rate_place i x) rate _ rate_stands (rw second splice_stands))));
        }
      where
        window : List ℕ
        window = spelt window_bytes (extended_at s i x).window

        rate : List ℕ
        rate = spelt (rate_bytes reserved) (extended_at s i x).rate

        first : i + 1 + length (spelt window_bytes (extended_at s i x).window) ≡ rate_place i x
        first = ap (λ (n : ℕ). i + 1 + n) (spelt_size window_bytes 2 (λ w. refl) (extended_at s i x).window ∙ ap (λ (n : ℕ). 2 * n) (presence_bit x 7 _))

        second : rate_place i x + length (spelt (rate_bytes reserved) (extended_at s i x).rate) ≡ splice_place i x
        second = ap (λ (n : ℕ). rate_place i x + n) (spelt_size (rate_bytes reserved) 3 (λ n. refl) (extended_at s i x).rate ∙ ap (λ (n : ℕ). 3 * n) (presence_bit x 6 _))

-- of an extension that may be missing
pub extended_again : (s : List ℕ) → Bytes s → (e : Option Span) → is_cramped s e ≡ false → has_wrong_splice s e ≡ false
    → (span : Span) → e ≡ Some span → span.start + span.size ≤ length s → Spelt s span.start (extended_in s e)
extended_again s b None roomy marked span h inside = absurd (none_there span h)
extended_again s b (Some own) roomy marked span h inside =
    let same : span ≡ own = cc in
    let room = ltb-false own.size (flagged_size (get_or s own.start 0)) roomy in
    let ends : own.start + own.size ≤ length s = rw same at inside in
    rw same (again s b own.start (omega arith) marked)
