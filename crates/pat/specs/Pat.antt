-- The program association table (document 01, Tables).
use Rattle.std.specs.Prelude.{not, List, [], ◌∷◌, ◌++◌, ℕ, ltb, leb, length, get_or}
use Rattle.ground.specs.Answer.{Answer, refused, given}
use Rattle.ground.specs.Refusal.{Row, judge, ◌when◌}
use Rattle.psi.specs.Section.{byte_at, word_at, heading_of, before, pid_field}
use Rattle.psi.specs.Refusals.{shared}
use Rattle.psi.specs.Loop.{Loop, filled, unfilled, onto}
use Rattle.pat.specs.Answers.{PatHeading, Association}

-- "four bytes an entry": the four bytes of each
abbrev pub fours_of : List ℕ → Loop (List ℕ)
fours_of [] = filled
fours_of (a ∷ []) = unfilled
fours_of (a ∷ b ∷ []) = unfilled
fours_of (a ∷ b ∷ c ∷ []) = unfilled
fours_of (a ∷ b ∷ c ∷ d ∷ rest) = onto (a ∷ b ∷ c ∷ d ∷ []) (fours_of rest)

-- the entries, from byte 8 up to CRC_32: the four bytes of each
unfoldable pub pat_of : List ℕ → Loop (List ℕ)
pat_of s = fours_of (before 8 s)

-- refusals 24 and 26: "section_number above last_section_number"; "entries don't fill their loop"
abbrev pub pat_own : List ℕ → List Row
pat_own s = (24 when ltb (byte_at s 7) (byte_at s 6)) ∷ (26 when not (pat_of s).fills) ∷ []

-- refusals 20, 23, 21, 25, 22, 24, 26
abbrev pub pat_refusals : List ℕ → List Row
pat_refusals s = shared 0 9 s ++ pat_own s

-- what a PAT's header says
abbrev pub pat_heading_of : List ℕ → PatHeading
pat_heading_of s = record { heading = heading_of s; entries = length (pat_of s).items }

-- the header, or the first refusal that applies
abbrev pub pat_header_of : List ℕ → Answer PatHeading
pat_header_of s = judge refused (pat_refusals s) (given (pat_heading_of s))

-- "program_number 16, PID 13", in the four bytes of an entry
abbrev pub association_of : List ℕ → Association
association_of bytes = record { program_number = word_at bytes 0; pid = pid_field (word_at bytes 2) }

-- refusal 27: "no entry with that index, counted from 0"
abbrev pub pat_missing : List ℕ → ℕ → List Row
pat_missing s i = (27 when leb (length (pat_of s).items) i) ∷ []

-- refusals 20, 23, 21, 25, 22, 24, 26, 27
abbrev pub pat_entry_refusals : List ℕ → ℕ → List Row
pat_entry_refusals s i = pat_refusals s ++ pat_missing s i

-- the entry with an index, or the first refusal that applies
abbrev pub pat_entry_of : List ℕ → ℕ → Answer Association
pat_entry_of s i = judge refused (pat_entry_refusals s i) (given (association_of (get_or (pat_of s).items i [])))
