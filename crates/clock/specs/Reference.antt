-- Document 01, "Time"; H.222.0 2.4.3.5 and equation 2-1: a clock reference's six bytes, read and written.
use Rattle.std.specs.Prelude.{ℕ, ◌+◌, ◌*◌, ◌/◌, ◌%◌, List, [], ◌∷◌, length, nat_lt}
use Rattle.ground.specs.Answer.{Answer, refused, given}
use Rattle.ground.specs.Number.{bits, Field, field, pack, number_at, bytes_of}
use Rattle.ground.specs.Refusal.{Row, judge, ◌when◌}
use Rattle.ground.specs.Write.{put}
use Rattle.clock.specs.Range.{is_no_reference}
use Rattle.clock.specs.Written.{Wrote, unwritten}
use Rattle.std.specs.declared.result.Result.{Result}
use Rattle.ground.specs.Told.{told}
use Rattle.ground.specs.declared.Refusal.{Refusal}
use Rattle.clock.specs.declared.reference.Reference.{Reference}

-- the field's 48 bits: base 33, reserved 6, extension 9; "Written reserved bits are ones"
abbrev pub reference_layout : ℕ → List Field
reference_layout v = field 33 (v / 300) ∷ field 6 63 ∷ field 9 (v % 300) ∷ []

-- the field of a reference
abbrev pub reference_field : ℕ → ℕ
reference_field v = pack (reference_layout v)

-- the base in a field
abbrev pub clock_base : ℕ → ℕ
clock_base n = bits n 15 33

-- its reserved bits
abbrev pub reserved_of : ℕ → ℕ
reserved_of n = bits n 9 6

-- its extension
abbrev pub extension_of : ℕ → ℕ
extension_of n = bits n 0 9

-- "A reference is base·300 + extension"
abbrev pub reference_of : ℕ → ℕ
reference_of n = clock_base n * 300 + extension_of n

-- what a reading says in document 01's terms
abbrev pub told_reference : Result Reference Refusal → Answer ℕ
told_reference = told (λ (v : Reference). v.0)

-- "Reading a lone field: 41, 8"
abbrev pub reference_read_refusals : List ℕ → List Row
reference_read_refusals s = (41 when nat_lt (length s) 6) ∷ (8 when nat_lt 299 (extension_of (number_at s 0 6))) ∷ []

-- "only the field's own first bytes are read"
abbrev pub read_reference : List ℕ → Answer ℕ
read_reference s = judge refused (reference_read_refusals s) (given (reference_of (number_at s 0 6)))

-- "Writing one: 40, 41"
abbrev pub reference_write_refusals : List ℕ → ℕ → List Row
reference_write_refusals s v = (40 when is_no_reference v) ∷ (41 when nat_lt (length s) 6) ∷ []

-- only the field's own first bytes are written, and every other byte is as before
abbrev pub write_reference : List ℕ → ℕ → Wrote
write_reference s v =
    judge (unwritten s) (reference_write_refusals s v) (record { answer = given tt; bytes = put s 0 (bytes_of 6 (reference_field v)) })
