-- The fields of a section (document 01, Tables; H.222.0 2.4.4), each by its place.
use Rattle.std.specs.Prelude.{List, [], ◌∷◌, ℕ, ◌+◌, ◌-◌, get_or, length}
use Rattle.std.proofs.Math.Seq.{slice}
use Rattle.ground.specs.Number.{number_of, bits, is_flagged}
use Rattle.psi.specs.Answers.{Heading}

-- the byte at a place
abbrev pub byte_at : List ℕ → ℕ → ℕ
byte_at s i = get_or s i 0

-- two bytes as a number
abbrev pub word_of : ℕ → ℕ → ℕ
word_of high low = number_of (high ∷ low ∷ [])

-- the two bytes from a place on, as a number
abbrev pub word_at : List ℕ → ℕ → ℕ
word_at s i = word_of (byte_at s i) (byte_at s (i + 1))

-- byte 0
abbrev pub table_id : List ℕ → ℕ
table_id s = byte_at s 0

-- the first bit of byte 1
abbrev pub syntax_indicator : List ℕ → ℕ
syntax_indicator s = bits (byte_at s 1) 7 1

-- the bit after section_syntax_indicator
abbrev pub bit_after : List ℕ → ℕ
bit_after s = bits (byte_at s 1) 6 1

-- "Bytes 3 to 7 of a section: id (16 bits), reserved, version (5), current/next, section number, last number", by these five bytes
abbrev pub head_of : ℕ → ℕ → ℕ → ℕ → ℕ → Heading
head_of third fourth fifth sixth seventh =
    record { id = word_of third fourth; version = bits fifth 1 5; current = is_flagged fifth 0; section_number = sixth; last_number = seventh }

-- the same of a section
abbrev pub heading_of : List ℕ → Heading
heading_of s = head_of (byte_at s 3) (byte_at s 4) (byte_at s 5) (byte_at s 6) (byte_at s 7)

-- the bytes of a section from a place up to its CRC_32, which is its last four bytes
abbrev pub before : ℕ → List ℕ → List ℕ
before from s = slice from (length s - 4) s

-- the 13 bits of a PID at the end of two bytes
abbrev pub pid_field : ℕ → ℕ
pid_field word = bits word 0 13
