-- What only the private functions promise each other: no public promise and no claim reaches it, so nobody has to believe it.
-- What is answered where no refusal of the section itself applies, read by places of the section.
use Rattle.std.specs.Prelude.{List, ℕ, ◌+◌, ◌%◌, get_or}
use Rattle.pmt.specs.Answers.{PmtHeading, PmtListing, ElementaryStream, DescriptorPlace}
use Rattle.psi.specs.Section.{word_of, heading_of}

-- the header of a PMT with these counts
abbrev pub pmt_heading_at : List ℕ → ℕ → ℕ → PmtHeading
pmt_heading_at s descriptors entries =
    record { heading = heading_of s; pcr_pid = word_of (get_or s 8 0) (get_or s 9 0) % 8192; descriptors = descriptors; entries = entries }

-- what reading a whole PMT with so many entries answers
abbrev pub pmt_listing_at : List ℕ → ℕ → PmtListing
pmt_listing_at s entries =
    record {
      heading = heading_of s;
      pcr_pid = word_of (get_or s 8 0) (get_or s 9 0) % 8192;
      start = 12;
      size = word_of (get_or s 10 0) (get_or s 11 0) % 4096;
      entries = entries;
    }

-- the entry of a PMT that stands at a place
abbrev pub stream_at : List ℕ → ℕ → ℕ → ElementaryStream
stream_at s place descriptors =
    record { stream_type = get_or s place 0; pid = word_of (get_or s (place + 1) 0) (get_or s (place + 2) 0) % 8192; descriptors = descriptors }

-- the descriptor that stands at a place
abbrev pub descriptor_place_at : List ℕ → ℕ → DescriptorPlace
descriptor_place_at s place = record { tag = get_or s place 0; start = place + 2; size = get_or s (place + 1) 0 }
