-- What is claimed of the definitions and the promises, and proved.
use Rattle.std.specs.Prelude.{◌≡◌, true, List, ◌++◌, ℕ, ◌+◌, ◌≤◌, ◌<◌, length, get_or, take, drop}
use Rattle.ground.specs.Answer.{refused, given}
use Rattle.ground.specs.Lent.{Lent}
use Rattle.ground.specs.Outcome.{Determined}
use Rattle.ground.specs.Refusal.{Exact, ExactCall}
use Rattle.ground.specs.Write.{Rest}
use Rattle.psi.specs.Loop.{filled, unfilled, onto, joined}
use Rattle.pmt.specs.Answers.{PmtHeading, PmtListing, DescriptorPlace}
use Rattle.psi.specs.Section.{before}
use Rattle.loops.specs.Loop.{Entry, descriptors_of}
use Rattle.loops.specs.Claims.{laid_out}
use Rattle.loops.specs.Body.{program_of, streams_of, pmt_refusals, loop_at, descriptor_at}
use Rattle.pmt.specs.Pmt.{pmt_header_of, pmt_entry_refusals, pmt_entry_of, descriptor_refusals, descriptor_in, descriptor_start, descriptor_size, next_refusals, next_of}
use Rattle.pmt.specs.Listed.{Lists, Listed, unlisted, pmt_list_refusals, pmt_list_of}
use Rattle.pmt.specs.Promises.{ReadsPmtHeader, ReadsPmtEntry, FindsProgramDescriptor, FindsEntryDescriptor, GivesProgramDescriptorBytes, GivesEntryDescriptorBytes, FindsNextDescriptor, ListsPmtEntries}

-- an entry of a PMT laid out again, followed by its descriptors
abbrev pub entry_laid_out : Entry → List ℕ
entry_laid_out e = e.lead ++ joined laid_out e.descriptors

-- The descriptor loop with a number is the part of a size from a place on: it lies inside the section; walked from there to its end, as `next_descriptor` walks (`next_follows`, `next_ends`), it is filled and has the loop's descriptors; and laid out again these are its bytes
pub record Holds (s : List ℕ) (number start size : ℕ) : Type 0 where
  pub inside : start + size ≤ length s
  pub descriptors : descriptors_of start (drop start (take (start + size) s)) ≡ record { fills = true; items = loop_at s number }
  pub bytes : take size (drop start s) ≡ joined laid_out (loop_at s number)

pub record Claims : Type 0 where
  -- any two outcomes that the promise of `pmt_header` admits are equal
  pub pmt_header : (s : List ℕ) → Determined (ReadsPmtHeader s)
  -- any two outcomes that the promise of `pmt_entry` admits are equal
  pub pmt_entry : (s : List ℕ) (i : ℕ) → Determined (ReadsPmtEntry s i)
  -- any two outcomes that the promise of `program_descriptor` admits are equal
  pub program_descriptor : (s : List ℕ) (i : ℕ) → Determined (FindsProgramDescriptor s i)
  -- any two outcomes that the promise of `entry_descriptor` admits are equal
  pub entry_descriptor : (s : List ℕ) (e i : ℕ) → Determined (FindsEntryDescriptor s e i)
  -- any two outcomes that the promise of `program_descriptor_bytes` admits are equal in all that a caller sees of lent bytes
  pub program_descriptor_bytes : (l : Lent) (i : ℕ) → Determined (GivesProgramDescriptorBytes l i)
  -- any two outcomes that the promise of `entry_descriptor_bytes` admits are equal in the same way
  pub entry_descriptor_bytes : (l : Lent) (e i : ℕ) → Determined (GivesEntryDescriptorBytes l e i)
  -- a PMT's header is refused, and by which number, exactly as its table says
  pub pmt_header_exact : (s : List ℕ) → Exact (pmt_refusals s) (pmt_header_of s)
  -- a PMT's entry is refused, and by which number, exactly as its table says
  pub pmt_entry_exact : (s : List ℕ) (i : ℕ) → Exact (pmt_entry_refusals s i) (pmt_entry_of s i)
  -- a descriptor, of the program or of an entry, is refused, and by which number, exactly as its table says
  pub descriptor_exact : (s : List ℕ) (number i : ℕ) → Exact (descriptor_refusals s number i) (descriptor_in s number i)
  -- "At most 201 entries": an accepted PMT has no more
  pub pmt_limit : (s : List ℕ) (h : PmtHeading) → pmt_header_of s ≡ given h → h.entries ≤ 201
  -- no byte of an accepted PMT is skipped or read twice: side by side the program's descriptors and the entries, each followed by its descriptors, are the bytes from 12 up to CRC_32
  pub pmt_bytes : (s : List ℕ) (h : PmtHeading) → pmt_header_of s ≡ given h
      → joined laid_out (program_of s).items ++ joined entry_laid_out (streams_of s).items ≡ before 12 s
  -- "section_number above last_section_number" is refused for a PMT too: of an accepted one it is not above
  pub pmt_numbers : (s : List ℕ) (h : PmtHeading) → pmt_header_of s ≡ given h → h.heading.section_number ≤ h.heading.last_number
  -- the part that the answer for a descriptor names lies inside the section, refused or not
  pub part_inside : (s : List ℕ) (number i : ℕ) → descriptor_start s (descriptor_in s number i) + descriptor_size (descriptor_in s number i) ≤ length s
  -- where a descriptor is given, that part is its bytes
  pub part_bytes : (s : List ℕ) (number i : ℕ) (p : DescriptorPlace) → descriptor_in s number i ≡ given p
      → take p.size (drop p.start s) ≡ (descriptor_at s number i).bytes
  -- any two outcomes that the promise of `next_descriptor` admits are equal
  pub next_descriptor : (bytes : List ℕ) (at : ℕ) → Determined (FindsNextDescriptor bytes at)
  -- a descriptor by its place is refused, and by which number, exactly as its table says
  pub next_exact : (bytes : List ℕ) (at : ℕ) → Exact (next_refusals bytes at) (next_of bytes at)
  -- a descriptor that is given starts behind its tag and length, and lies inside the part
  pub next_inside : (bytes : List ℕ) (at : ℕ) (p : DescriptorPlace) → next_of bytes at ≡ given p → (p.start ≡ at + 2) × (p.start + p.size ≤ length bytes)
  -- who goes on behind each descriptor that is given walks the loop: the descriptor is its next, and the rest of the loop stands behind it
  pub next_follows : (bytes : List ℕ) (at : ℕ) (p : DescriptorPlace) → next_of bytes at ≡ given p
      → descriptors_of at (drop at bytes)
      ≡ onto (record { at = at; tag = p.tag; bytes = take p.size (drop p.start bytes) }) (descriptors_of (p.start + p.size) (drop (p.start + p.size) bytes))
  -- 27 is the end of a loop that is filled, and 26 says that it is not
  pub next_ends : (bytes : List ℕ) (at : ℕ) → next_of bytes at ≡ refused 27 → descriptors_of at (drop at bytes) ≡ filled
  pub next_overruns : (bytes : List ℕ) (at : ℕ) → next_of bytes at ≡ refused 26 → descriptors_of at (drop at bytes) ≡ unfilled
  -- any two outcomes that the promise of `pmt_entries` admits are equal
  pub pmt_list : (s : List ℕ) (l : Lists) → Determined (ListsPmtEntries s l)
  -- a PMT's lists are refused, and by which number, exactly as their table says, and a refused call writes nothing
  pub pmt_list_exact : (s : List ℕ) (l : Lists) → ExactCall (pmt_list_refusals s l) (λ (x : Listed). x.answer) (unlisted l) (pmt_list_of s l)
  -- where it is not refused, the header is the one that `pmt_header` answers
  pub pmt_list_header : (s : List ℕ) (l : Lists) (h : PmtListing) → (pmt_list_of s l).answer ≡ given h
      → pmt_header_of s ≡ given (record { heading = h.heading; pcr_pid = h.pcr_pid; descriptors = length (loop_at s 0); entries = h.entries })
  -- item i of the first two lists is the entry that `pmt_entry` answers for the index i
  pub pmt_list_entry : (s : List ℕ) (l : Lists) (h : PmtListing) → (pmt_list_of s l).answer ≡ given h → (i : ℕ) → i < h.entries
      → pmt_entry_of s i
      ≡ given (record { stream_type = get_or (pmt_list_of s l).lists.types i 0; pid = get_or (pmt_list_of s l).lists.pids i 0; descriptors = length (loop_at s (i + 1)) })
  -- the part that the answer names is the program's loop, of which `program_descriptor` gives the descriptors by their index
  pub pmt_list_program : (s : List ℕ) (l : Lists) (h : PmtListing) → (pmt_list_of s l).answer ≡ given h → Holds s 0 h.start h.size
  -- and the part that item i of the last two lists names is the loop of entry i, of which `entry_descriptor` gives them
  pub pmt_list_loop : (s : List ℕ) (l : Lists) (h : PmtListing) → (pmt_list_of s l).answer ≡ given h → (i : ℕ) → i < h.entries
      → Holds s (i + 1) (get_or (pmt_list_of s l).lists.starts i 0) (get_or (pmt_list_of s l).lists.sizes i 0)
  -- places past the entries stay, and no list gets longer or shorter
  pub pmt_list_rest : (s : List ℕ) (l : Lists) (h : PmtListing) → (pmt_list_of s l).answer ≡ given h
      → Rest h.entries l.types (pmt_list_of s l).lists.types
      × Rest h.entries l.pids (pmt_list_of s l).lists.pids
      × Rest h.entries l.starts (pmt_list_of s l).lists.starts
      × Rest h.entries l.sizes (pmt_list_of s l).lists.sizes
