-- The loops of a PMT: descriptors, and entries with their descriptors (document 01, Tables).
use Rattle.std.specs.Prelude.{Bool, cond, ◌&&◌, List, [], ◌∷◌, ℕ, ◌+◌, leb, eqb, length, take, drop}
use Rattle.ground.specs.Items.{Step, takes, ends, items_from}
use Rattle.ground.specs.Number.{bits}
use Rattle.psi.specs.Section.{word_at}
use Rattle.psi.specs.Loop.{Loop, filled, unfilled, onto}

-- A descriptor: its place in the section, its tag and its bytes
pub record Descriptor : Type 0 where
  pub at : ℕ
  pub tag : ℕ
  pub bytes : List ℕ

-- "Descriptors are tag, length, bytes, and fill their loop exactly": the one that stands first in bytes that start at the place `at`
abbrev pub first_descriptor : ℕ → List ℕ → Step Descriptor (Loop Descriptor)
first_descriptor at [] = ends filled
first_descriptor at (tag ∷ []) = ends unfilled
first_descriptor at (tag ∷ n ∷ rest) =
    cond (leb n (length rest)) (takes (2 + n) (record { at = at; tag = tag; bytes = take n rest })) (ends unfilled)

-- the descriptors of a loop whose bytes start at the place `at`, one after the other
unfoldable pub descriptors_of : ℕ → List ℕ → Loop Descriptor
descriptors_of at bytes = items_from onto first_descriptor filled at bytes

-- an entry of a PMT: its place in the section, its five bytes before its descriptors, and these
pub record Entry : Type 0 where
  pub at : ℕ
  pub lead : List ℕ
  pub descriptors : List Descriptor

-- A length of 12 bits, the first two of which are 00, with that many bytes there
abbrev pub fits : ℕ → ℕ → Bool
fits word left = eqb (bits word 10 2) 0 && leb (bits word 0 12) left

-- "An entry is followed by its descriptors, and these by the next entry, until the section's own length is used up exactly": the entry that stands first in bytes that start at the place `at`
abbrev pub first_entry : ℕ → List ℕ → Step Entry (Loop Entry)
first_entry at bytes =
    let word = word_at bytes 3 in
    let n = bits word 0 12 in
    let own = descriptors_of (at + 5) (take n (drop 5 bytes)) in
    cond (leb 5 (length bytes) && (fits word (length (drop 5 bytes)) && own.fills))
    (takes (5 + n) (record { at = at; lead = take 5 bytes; descriptors = own.items }))
    (ends unfilled)

-- the entries whose bytes start at the place `at`, one after the other
unfoldable pub entries_of : ℕ → List ℕ → Loop Entry
entries_of at bytes = items_from onto first_entry filled at bytes
