-- Document 01, "Numbers of the house" (Section) and "Tables"; H.222.0 2.4.4: the table_id that a section begins with, and how long it says that it is.
use Rattle.std.specs.Prelude.{List, ℕ, ◌+◌, ◌*◌, get_or}
use Rattle.ground.specs.Number.{bits}

-- a section's table_id is its first byte
abbrev pub table_of : List ℕ → ℕ
table_of s = get_or s 0 0

-- section_length: the last 12 bits of a section's second and third byte
abbrev pub length_field : ℕ → ℕ → ℕ
length_field second third = bits (second * 256 + third) 0 12

-- the section_length that some bytes start with
abbrev pub section_length : List ℕ → ℕ
section_length s = length_field (get_or s 1 0) (get_or s 2 0)

-- "3 + section_length bytes"
abbrev pub section_size : List ℕ → ℕ
section_size s = 3 + section_length s
