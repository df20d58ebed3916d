-- What each public call promises of a section s; of bytes that it lends, what a caller sees of them.
use Rattle.std.specs.Prelude.{◌≡◌, List, ℕ, ◌+◌}
use Rattle.std.specs.declared.result.Result.{Result}
use Rattle.ground.specs.declared.Refusal.{Refusal}
use Rattle.ground.specs.Lent.{Lent}
use Rattle.pmt.specs.Answers.{told_pmt_header, told_pmt_entry, told_pmt_descriptor}
use Rattle.pmt.specs.Pmt.{pmt_header_of, pmt_entry_of, descriptor_in, part_of, next_of}
use Rattle.pmt.specs.Listed.{Lists, listed, pmt_list_of}
use Rattle.pmt.specs.declared.PmtHeader.{PmtHeader}
use Rattle.pmt.specs.declared.PmtListed.{PmtListed}
use Rattle.pmt.specs.declared.Stream.{Stream}
use Rattle.pmt.specs.declared.Place.{Place}

-- `pmt_header`
abbrev pub ReadsPmtHeader : List ℕ → Result PmtHeader Refusal → Type 0
ReadsPmtHeader s r = told_pmt_header r ≡ pmt_header_of s

-- `pmt_entry`
abbrev pub ReadsPmtEntry : List ℕ → ℕ → Result Stream Refusal → Type 0
ReadsPmtEntry s i r = told_pmt_entry r ≡ pmt_entry_of s i

-- `program_descriptor`: the loop with number 0 is the program's
abbrev pub FindsProgramDescriptor : List ℕ → ℕ → Result Place Refusal → Type 0
FindsProgramDescriptor s i r = told_pmt_descriptor r ≡ descriptor_in s 0 i

-- `entry_descriptor`: the loop with number e + 1 is that of entry e
abbrev pub FindsEntryDescriptor : List ℕ → ℕ → ℕ → Result Place Refusal → Type 0
FindsEntryDescriptor s e i r = told_pmt_descriptor r ≡ descriptor_in s (e + 1) i

-- `program_descriptor_bytes`
abbrev pub GivesProgramDescriptorBytes : Lent → ℕ → Lent → Type 0
GivesProgramDescriptorBytes l i r = r ≡ part_of l (descriptor_in l.bytes 0 i)

-- `entry_descriptor_bytes`
abbrev pub GivesEntryDescriptorBytes : Lent → ℕ → ℕ → Lent → Type 0
GivesEntryDescriptorBytes l e i r = r ≡ part_of l (descriptor_in l.bytes (e + 1) i)

-- `next_descriptor`, of lent bytes and a place in them
abbrev pub FindsNextDescriptor : List ℕ → ℕ → Result Place Refusal → Type 0
FindsNextDescriptor bytes at r = told_pmt_descriptor r ≡ next_of bytes at

-- `pmt_entries`: its outcome is the answer, with the four lent lists after it
abbrev pub ListsPmtEntries : List ℕ → Lists → Result PmtListed Refusal × Lists → Type 0
ListsPmtEntries s l o = listed o.0 o.1 ≡ pmt_list_of s l
