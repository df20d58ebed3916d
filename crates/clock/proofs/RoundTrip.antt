-- A field that was written is there and holds its value, and one that was read is made again of its value; what a promise admits beside either is the same outcome.
-- Assumes nothing.
use Rattle.std.proofs.Common.{◌≡◌, ℕ, ◌%◌, ◌^◌, ◌<◌, ◌≤◌, false, ltb, leb, List, length, Ok, sym, ap, ◌∙◌, zero-add, arith, ltb-false, le-ltb, leb-false, leb-true}
use borrow.Author.Tests.{lt-leb, not-false}
use Rattle.ground.specs.Answer.{refused, given}
use Rattle.ground.specs.Number.{Bytes, number_at, bytes_of}
use Rattle.ground.specs.Refusal.{Row, judge, Silent}
use Rattle.ground.specs.Write.{put}
use Rattle.ground.proofs.Answer.{given_apart}
use Rattle.ground.proofs.Judged.{given_by}
use Rattle.ground.proofs.Number.{length-bytes_of, number_at-put, number_at_lt, put-number_at}
use Rattle.ground.proofs.Refused.{accepted, none}
use Rattle.ground.proofs.Test.{both_true}
use Rattle.ground.proofs.Write.{length-put}
use Rattle.clock.specs.Range.{is_no_stamp, is_no_reference, stamp_turn, reference_turn}
use Rattle.clock.specs.Written.{Wrote, wrote, unwritten}
use Rattle.clock.specs.Stamp.{Prefixed, read_stamp, read_any_stamp, write_stamp, stamp_read_refusals, any_stamp_refusals, stamp_write_refusals, is_no_prefix, lacks_marker, is_unmarked, stamp_of, prefixed_of, stamp_field}
use Rattle.clock.specs.Reference.{read_reference, write_reference, reference_read_refusals, reference_write_refusals, reference_of, reference_field, extension_of, reserved_of}
use Rattle.clock.specs.Claims.RoundTrip.{RoundTrips}
use Rattle.clock.proofs.Field.{stamp_field_lt, stamp_field_marked, stamp_of_field, stamp_of_lt, marked, field_of_any, field_of_stamp, reference_field_lt, reference_extension, reference_of_field, reference_of_lt, field_of_reference}
use Rattle.clock.proofs.Outcome.{outcomes}

-- ---- a field of k bytes, the number n
module _ (s : List ℕ) (k n : ℕ) where
  -- what a write leaves that is done
  abbrev filled : List ℕ
  filled = put s 0 (bytes_of k n)

  -- a write that was done passed its table
  done : (rows : List Row) (after : List ℕ) → wrote (Ok tt) after ≡ judge (unwritten s) rows (wrote (Ok tt) filled) → Silent rows × (after ≡ filled)
  done rows after e =
      let found = none (unwritten s) (wrote (Ok tt) filled) rows (wrote (Ok tt) after) (λ m p. given_apart (ap (λ (w : Wrote). w.answer) p)) e in
      (found.0, ap (λ (w : Wrote). w.bytes) found.1)

  -- the field is there
  there : k ≤ length s → n < 256 ^ k → number_at filled 0 k ≡ n
  there h l = number_at-put s 0 k (omega arith) n l

  -- and the bytes are as many as before
  still : k ≤ length s → ltb (length filled) k ≡ false
  still h =
      let same : length filled ≡ length s = length-put s 0 (bytes_of k n) (rw (zero-add, length-bytes_of k n) h) in
      le-ltb (length filled) k (omega arith)

-- a field that holds its own number stays
again : (s : List ℕ) (k n : ℕ) → n ≡ number_at s 0 k → k ≤ length s → Bytes s → wrote (Ok tt) (filled s k n) ≡ wrote (Ok tt) s
again s k n e h b = ap (λ (t : List ℕ). wrote (Ok tt) t) (ap (filled s k) e ∙ put-number_at s 0 k (omega arith) b)

-- ---- stamps
-- a prefix that is one is below 16
prefix_lt : (prefix : ℕ) → is_no_prefix prefix ≡ false → prefix < 16
prefix_lt prefix e = let h = leb-true prefix 3 (both_true (leb 1 prefix) (leb prefix 3) (not-false _ e)).1 in omega arith

-- what a write that passed its table leaves reads as its stamp
stamp_read_back : (s : List ℕ) (prefix v : ℕ) → Silent (stamp_write_refusals s prefix v) → read_stamp (filled s 5 (stamp_field prefix v)) prefix ≡ given v
stamp_read_back s prefix v passed =
    let small = prefix_lt prefix passed.0 in
    let long = ltb-false (length s) 5 passed.1.1.0 in
    let held = there s 5 (stamp_field prefix v) long (stamp_field_lt prefix v small) in
    let marked = ap (λ (n : ℕ). is_unmarked n prefix) held ∙ stamp_field_marked prefix v small in
    accepted refused _ (stamp_read_refusals (filled s 5 (stamp_field prefix v)) prefix) (passed.0, (still s 5 (stamp_field prefix v) long, (marked, tt)))
    ∙ ap given (ap stamp_of held ∙ stamp_of_field prefix v small (leb-false stamp_turn v passed.1.0))

-- the same behind any four bits
pub any_stamp_returns : (s : List ℕ) (prefix v : ℕ) → prefix < 2 ^ 4 → v < stamp_turn → 5 ≤ length s
    → read_any_stamp (put s 0 (bytes_of 5 (stamp_field prefix v))) ≡ given (record { prefix = prefix; stamp = v })
any_stamp_returns s prefix v small inside long =
    let held = there s 5 (stamp_field prefix v) long (stamp_field_lt prefix v small) in
    let right = marked (stamp_field prefix v) prefix (stamp_field_marked prefix v small) in
    accepted refused _ (any_stamp_refusals (filled s 5 (stamp_field prefix v))) (still s 5 (stamp_field prefix v) long, (ap lacks_marker held ∙ right.1, tt))
    ∙ rw (held, right.0, stamp_of_field prefix v small inside)

pub any_stamp_stays : (s : List ℕ) (p : Prefixed) → Bytes s → read_any_stamp s ≡ given p → put s 0 (bytes_of 5 (stamp_field p.prefix p.stamp)) ≡ s
any_stamp_stays s p b e =
    let found = given_by (any_stamp_refusals s) (prefixed_of (number_at s 0 5)) p e in
    let long = ltb-false (length s) 5 found.0.0 in
    rw (found.1, field_of_any (number_at s 0 5) (number_at_lt s 0 5 (omega arith) b) found.0.1.0) (put-number_at s 0 5 (omega arith) b)

-- and the stamp of a reading that passed its table is written as the bytes were
stamp_written_again : (s : List ℕ) (prefix : ℕ) → Bytes s → Silent (stamp_read_refusals s prefix)
    → write_stamp s prefix (stamp_of (number_at s 0 5)) ≡ wrote (Ok tt) s
stamp_written_again s prefix b passed =
    let long = ltb-false (length s) 5 passed.1.0 in
    let inside : is_no_stamp (stamp_of (number_at s 0 5)) ≡ false = lt-leb stamp_turn (stamp_of (number_at s 0 5)) (stamp_of_lt (number_at s 0 5)) in
    accepted (unwritten s) _ (stamp_write_refusals s prefix (stamp_of (number_at s 0 5))) (passed.0, (inside, (passed.1.0, tt)))
    ∙ again s 5 _ (field_of_stamp (number_at s 0 5) prefix (number_at_lt s 0 5 long b) passed.1.1.0) long b

-- ---- clock references
-- what a write that passed its table leaves reads as its clock reference
reference_read_back : (s : List ℕ) (v : ℕ) → Silent (reference_write_refusals s v) → read_reference (filled s 6 (reference_field v)) ≡ given v
reference_read_back s v passed =
    let inside = leb-false reference_turn v passed.0 in
    let long = ltb-false (length s) 6 passed.1.0 in
    let held = there s 6 (reference_field v) long (reference_field_lt v inside) in
    let low = ap (λ (n : ℕ). ltb 299 (extension_of n)) held ∙ ap (ltb 299) (reference_extension v inside) ∙ le-ltb 299 (v % 300) (omega arith) in
    accepted refused _ (reference_read_refusals (filled s 6 (reference_field v))) (still s 6 (reference_field v) long, (low, tt))
    ∙ ap given (ap reference_of held ∙ reference_of_field v inside)

-- and the clock reference of a reading that passed its table is written as the bytes were
reference_written_again : (s : List ℕ) → Bytes s → reserved_of (number_at s 0 6) ≡ 63 → Silent (reference_read_refusals s)
    → write_reference s (reference_of (number_at s 0 6)) ≡ wrote (Ok tt) s
reference_written_again s b ones passed =
    let long = ltb-false (length s) 6 passed.0 in
    let low = ltb-false 299 (extension_of (number_at s 0 6)) passed.1.0 in
    let inside : is_no_reference (reference_of (number_at s 0 6)) ≡ false = lt-leb reference_turn (reference_of (number_at s 0 6)) (reference_of_lt (number_at s 0 6) low) in
    accepted (unwritten s) _ (reference_write_refusals s (reference_of (number_at s 0 6))) (inside, (passed.0, tt))
    ∙ again s 6 _ (field_of_reference (number_at s 0 6) (number_at_lt s 0 6 long b) low ones) long b

pub round_trips : RoundTrips
round_trips =
    record {
      stamp_returns = λ s after prefix v r w e.
          let found = done s 5 (stamp_field prefix v.0) (stamp_write_refusals s prefix v.0) after w in
          outcomes.reads_stamp after prefix r (Ok v) e
          (sym (ap (λ (t : List ℕ). read_stamp t prefix) found.1 ∙ stamp_read_back s prefix v.0 found.0));
      stamp_stays = λ s prefix v o b e w.
          let found = given_by (stamp_read_refusals s prefix) (stamp_of (number_at s 0 5)) v.0 (sym e) in
          outcomes.writes_stamp s prefix v.0 o ((Ok tt), s) w
          (sym (ap (write_stamp s prefix) found.1 ∙ stamp_written_again s prefix b found.0));
      reference_returns = λ s after v r w e.
          let found = done s 6 (reference_field v.0) (reference_write_refusals s v.0) after w in
          outcomes.reads_reference after r (Ok v) e
          (sym (ap read_reference found.1 ∙ reference_read_back s v.0 found.0));
      reference_stays = λ s v o b ones e w.
          let found = given_by (reference_read_refusals s) (reference_of (number_at s 0 6)) v.0 (sym e) in
          outcomes.writes_reference s v.0 o ((Ok tt), s) w
          (sym (ap (write_reference s) found.1 ∙ reference_written_again s b ones found.0));
    }
