-- Document 01, "Time" and "PES headers"; H.222.0 2.4.3.7: a stamp's field of five bytes, read and written.
use Rattle.std.specs.Prelude.{ℕ, Bool, not, ◌&&◌, ◌||◌, List, [], ◌∷◌, length, ◌==◌, nat_le, nat_lt}
use Rattle.ground.specs.Answer.{Answer, refused, given}
use Rattle.ground.specs.Number.{bits, Field, field, pack, number_at, bytes_of}
use Rattle.ground.specs.Refusal.{Row, judge, ◌when◌}
use Rattle.ground.specs.Write.{put}
use Rattle.clock.specs.Range.{is_no_stamp}
use Rattle.clock.specs.Written.{Wrote, unwritten}
use Rattle.std.specs.declared.result.Result.{Result}
use Rattle.ground.specs.Told.{told}
use Rattle.ground.specs.declared.Refusal.{Refusal}
use Rattle.clock.specs.declared.stamp.Stamp.{Stamp}
use Rattle.clock.specs.declared.stamp.AnyStamp.{AnyStamp}

-- the field's 40 bits: prefix 4, stamp[32..30] 3, marker 1, stamp[29..15] 15, marker 1, stamp[14..0] 15, marker 1
abbrev pub stamp_layout : ℕ → ℕ → List Field
stamp_layout prefix v =
    field 4 prefix
    ∷ field 3 (bits v 30 3)
    ∷ field 1 1
    ∷ field 15 (bits v 15 15)
    ∷ field 1 1
    ∷ field 15 (bits v 0 15)
    ∷ field 1 1
    ∷ []

-- the field of a stamp behind a prefix, its markers ones
abbrev pub stamp_field : ℕ → ℕ → ℕ
stamp_field prefix v = pack (stamp_layout prefix v)

-- the stamp in a field
abbrev pub stamp_of : ℕ → ℕ
stamp_of n = pack (field 3 (bits n 33 3) ∷ field 15 (bits n 17 15) ∷ field 15 (bits n 1 15) ∷ [])

-- the four bits before it
abbrev pub prefix_of : ℕ → ℕ
prefix_of n = bits n 36 4

-- "one of its three marker bits is wrong"
abbrev pub lacks_marker : ℕ → Bool
lacks_marker n = not (bits n 32 1 == 1 && bits n 16 1 == 1 && bits n 0 1 == 1)

-- "a stamp's four-bit prefix or one of its three marker bits is wrong"
abbrev pub is_unmarked : ℕ → ℕ → Bool
is_unmarked n prefix = not (prefix_of n == prefix) || lacks_marker n

-- "a stamp prefix other than 1, 2, 3"
abbrev pub is_no_prefix : ℕ → Bool
is_no_prefix prefix = not (nat_le 1 prefix && nat_le prefix 3)

-- ---- a stamp behind the prefix that the caller names
-- what a reading says in document 01's terms
abbrev pub told_stamp : Result Stamp Refusal → Answer ℕ
told_stamp = told (λ (v : Stamp). v.0)

-- "Reading a lone field: 40 (prefix), 41, 36"
abbrev pub stamp_read_refusals : List ℕ → ℕ → List Row
stamp_read_refusals s prefix =
    (40 when is_no_prefix prefix)
    ∷ (41 when nat_lt (length s) 5)
    ∷ (36 when is_unmarked (number_at s 0 5) prefix)
    ∷ []

-- "only the field's own first bytes are read"
abbrev pub read_stamp : List ℕ → ℕ → Answer ℕ
read_stamp s prefix = judge refused (stamp_read_refusals s prefix) (given (stamp_of (number_at s 0 5)))

-- ---- a stamp behind any four bits, as in the seamless splice (document 02, ticket 6)
-- the four bits and the stamp
pub record Prefixed : Type 0 where
  pub prefix : ℕ
  pub stamp : ℕ

-- both in a field
abbrev pub prefixed_of : ℕ → Prefixed
prefixed_of n = record { prefix = prefix_of n; stamp = stamp_of n }

-- what such a reading says in document 01's terms
abbrev pub told_any_stamp : Result AnyStamp Refusal → Answer Prefixed
told_any_stamp = told (λ (v : AnyStamp). record { prefix = v.prefix; stamp = v.stamp.0 })

-- "36 for a marker": no prefix is asked for, so none is wrong
abbrev pub any_stamp_refusals : List ℕ → List Row
any_stamp_refusals s = (41 when nat_lt (length s) 5) ∷ (36 when lacks_marker (number_at s 0 5)) ∷ []

-- only the field's own first bytes are read
abbrev pub read_any_stamp : List ℕ → Answer Prefixed
read_any_stamp s = judge refused (any_stamp_refusals s) (given (prefixed_of (number_at s 0 5)))

-- ---- a stamp written
-- "Writing one: 40, 41"
abbrev pub stamp_write_refusals : List ℕ → ℕ → ℕ → List Row
stamp_write_refusals s prefix v =
    (40 when is_no_prefix prefix)
    ∷ (40 when is_no_stamp v)
    ∷ (41 when nat_lt (length s) 5)
    ∷ []

-- only the field's own first bytes are written, and every other byte is as before
abbrev pub write_stamp : List ℕ → ℕ → ℕ → Wrote
write_stamp s prefix v =
    judge (unwritten s) (stamp_write_refusals s prefix v)
    (record { answer = given tt; bytes = put s 0 (bytes_of 5 (stamp_field prefix v)) })
