-- The body of a PMT: its loops, and the refusals that judge it (document 01, Tables).
use Rattle.std.specs.Prelude.{not, ◌&&◌, List, [], ◌∷◌, ◌++◌, map, ℕ, ◌+◌, ◌-◌, ltb, eqb, length, get_or, take, drop}
use Rattle.std.proofs.Math.Seq.{slice}
use Rattle.ground.specs.Number.{bits}
use Rattle.ground.specs.Refusal.{Row, ◌when◌}
use Rattle.psi.specs.Section.{byte_at, word_at}
use Rattle.psi.specs.Refusals.{shared}
use Rattle.psi.specs.Loop.{Loop}
use Rattle.loops.specs.Loop.{Descriptor, Entry, descriptors_of, entries_of}

-- the section up to CRC_32
abbrev pub body_of : List ℕ → List ℕ
body_of s = take (length s - 4) s

-- program_info_length
abbrev pub info_length : List ℕ → ℕ
info_length s = bits (word_at s 10) 0 12

-- the program's descriptors, from byte 12 on
unfoldable pub program_of : List ℕ → Loop Descriptor
program_of s = descriptors_of 12 (slice 12 (12 + info_length s) (body_of s))

-- the entries, which follow them
unfoldable pub streams_of : List ℕ → Loop Entry
streams_of s = entries_of (12 + info_length s) (drop (12 + info_length s) (body_of s))

-- ---- the refusals
-- refusals 24 and 26 before the loops: "for a PMT, either is not 0"; "a length inside the section doesn't fit or starts with bits other than 00", of program_info_length
abbrev pub pmt_own : List ℕ → List Row
pmt_own s =
    (24 when not (eqb (byte_at s 6) 0))
    ∷ (24 when not (eqb (byte_at s 7) 0))
    ∷ (26 when not (eqb (bits (word_at s 10) 10 2) 0))
    ∷ (26 when ltb (length s - 16) (info_length s))
    ∷ []

-- refusal 26 of the loops: the same of each ES_info_length, "or entries or descriptors don't fill their loop"
abbrev pub pmt_loops : List ℕ → List Row
pmt_loops s = (26 when not ((program_of s).fills && (streams_of s).fills)) ∷ []

-- refusals 20, 23, 21, 25, 22, 24, 26
abbrev pub pmt_refusals : List ℕ → List Row
pmt_refusals s = (shared 2 13 s ++ pmt_own s) ++ pmt_loops s

-- ---- the entries by their indices, and the loops by their numbers
-- what stands for an entry that is not there
abbrev pub no_entry : Entry
no_entry = record { at = 0; lead = []; descriptors = [] }

-- the entry with an index
abbrev pub entry_at : List ℕ → ℕ → Entry
entry_at s i = get_or (streams_of s).items i no_entry

-- the descriptor loops: number 0 is the program's, number i + 1 that of entry i
abbrev pub loops_of : List ℕ → List (List Descriptor)
loops_of s = (program_of s).items ∷ map (λ (e : Entry). e.descriptors) (streams_of s).items

-- the descriptors of the loop with a number
abbrev pub loop_at : List ℕ → ℕ → List Descriptor
loop_at s number = get_or (loops_of s) number []

-- what stands for a descriptor that is not there
abbrev pub no_descriptor : Descriptor
no_descriptor = record { at = 0; tag = 0; bytes = [] }

-- the descriptor with an index of the loop with a number
abbrev pub descriptor_at : List ℕ → ℕ → ℕ → Descriptor
descriptor_at s number i = get_or (loop_at s number) i no_descriptor
