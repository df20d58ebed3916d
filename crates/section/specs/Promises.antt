-- What each public call promises.
use Rattle.std.specs.Prelude.{◌≡◌, List, ℕ, drop}
use Rattle.section.specs.Section.{table_of, length_field, section_size}

-- `length_of`
abbrev pub SaysLength : ℕ → ℕ → ℕ → Type 0
SaysLength second third r = r ≡ length_field second third

-- `table_at`: bytes past the end are 0, as for `size_at`
abbrev pub SaysTable : List ℕ → ℕ → ℕ → Type 0
SaysTable bytes place r = r ≡ table_of (drop place bytes)

-- `size_at`
abbrev pub SaysSize : List ℕ → ℕ → ℕ → Type 0
SaysSize bytes place r = r ≡ section_size (drop place bytes)
