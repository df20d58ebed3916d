-- What a PMT says (document 01, Tables): its header, its entries, its descriptors and their bytes.
use Rattle.std.specs.Prelude.{List, [], ◌∷◌, ◌++◌, ℕ, ◌+◌, leb, ltb, length}
use Rattle.ground.specs.Answer.{Answer, refused, given}
use Rattle.ground.specs.Lent.{Lent, part}
use Rattle.ground.specs.Refusal.{Row, judge, ◌when◌}
use Rattle.psi.specs.Section.{byte_at, word_at, heading_of, pid_field}
use Rattle.loops.specs.Loop.{Descriptor, Entry}
use Rattle.loops.specs.Body.{program_of, streams_of, pmt_refusals, entry_at, loops_of, loop_at, descriptor_at}
use Rattle.pmt.specs.Answers.{PmtHeading, ElementaryStream, DescriptorPlace}

-- ---- the header
-- what a PMT's header says
abbrev pub pmt_heading_of : List ℕ → PmtHeading
pmt_heading_of s =
    record {
      heading = heading_of s;
      pcr_pid = pid_field (word_at s 8);
      descriptors = length (program_of s).items;
      entries = length (streams_of s).items;
    }

-- the header, or the first refusal that applies
abbrev pub pmt_header_of : List ℕ → Answer PmtHeading
pmt_header_of s = judge refused (pmt_refusals s) (given (pmt_heading_of s))

-- ---- an entry
-- "entries of stream_type, PID, ES_info_length", and how many descriptors follow
abbrev pub stream_of : Entry → ElementaryStream
stream_of e = record { stream_type = byte_at e.lead 0; pid = pid_field (word_at e.lead 1); descriptors = length e.descriptors }

-- refusal 27: "no entry with that index, counted from 0"
abbrev pub pmt_missing : List ℕ → ℕ → List Row
pmt_missing s i = (27 when leb (length (streams_of s).items) i) ∷ []

-- refusals 20, 23, 21, 25, 22, 24, 26, 27
abbrev pub pmt_entry_refusals : List ℕ → ℕ → List Row
pmt_entry_refusals s i = pmt_refusals s ++ pmt_missing s i

-- the entry with an index, or the first refusal that applies
abbrev pub pmt_entry_of : List ℕ → ℕ → Answer ElementaryStream
pmt_entry_of s i = judge refused (pmt_entry_refusals s i) (given (stream_of (entry_at s i)))

-- ---- a descriptor
-- A descriptor's tag, and where in the section its bytes start and how many there are
abbrev pub descriptor_place : Descriptor → DescriptorPlace
descriptor_place d = record { tag = d.tag; start = d.at + 2; size = length d.bytes }

-- refusal 27, of the entry that has the loop and of the descriptor in it
abbrev pub descriptor_missing : List ℕ → ℕ → ℕ → List Row
descriptor_missing s number i = (27 when leb (length (loops_of s)) number) ∷ (27 when leb (length (loop_at s number)) i) ∷ []

-- refusals 20, 23, 21, 25, 22, 24, 26, 27
abbrev pub descriptor_refusals : List ℕ → ℕ → ℕ → List Row
descriptor_refusals s number i = pmt_refusals s ++ descriptor_missing s number i

-- the descriptor with an index of the loop with a number, or the first refusal that applies
abbrev pub descriptor_in : List ℕ → ℕ → ℕ → Answer DescriptorPlace
descriptor_in s number i = judge refused (descriptor_refusals s number i) (given (descriptor_place (descriptor_at s number i)))

-- ---- its bytes
-- where in the section the answer's bytes start: a refusal's at the section's end
abbrev pub descriptor_start : List ℕ → Answer DescriptorPlace → ℕ
descriptor_start s (given p) = p.start
descriptor_start s (refused n) = length s

-- how many bytes the answer has: a refusal has none
abbrev pub descriptor_size : Answer DescriptorPlace → ℕ
descriptor_size (given p) = p.size
descriptor_size (refused n) = 0

-- of the lent section, the part that an answer names
abbrev pub part_of : Lent → Answer DescriptorPlace → Lent
part_of l d = part l (descriptor_start l.bytes d) (descriptor_size d)

-- ---- a descriptor by its place, in a part that is lent
-- refusal 27, where no byte is left; refusal 26, where no tag and length are there, or the length overruns the part
abbrev pub next_refusals : List ℕ → ℕ → List Row
next_refusals bytes at =
    (27 when leb (length bytes) at)
    ∷ (26 when ltb (length bytes) (at + 2))
    ∷ (26 when ltb (length bytes) (at + 2 + byte_at bytes (at + 1)))
    ∷ []

-- "Descriptors are tag, length, bytes": the one that stands at a place, or the first refusal that applies
abbrev pub next_of : List ℕ → ℕ → Answer DescriptorPlace
next_of bytes at =
    judge refused (next_refusals bytes at) (given (record { tag = byte_at bytes at; start = at + 2; size = byte_at bytes (at + 1) }))
