-- What each public call's answer says in document 01's terms: "A refusal gives its number alone", any other answer has named values.
use Rattle.std.specs.Prelude.{ℕ}
use Rattle.std.specs.declared.result.Result.{Result}
use Rattle.ground.specs.Answer.{Answer}
use Rattle.ground.specs.Told.{told}
use Rattle.ground.specs.declared.Refusal.{Refusal}
use Rattle.psi.specs.Answers.{Heading, told_head}
use Rattle.pmt.specs.declared.PmtHeader.{PmtHeader}
use Rattle.pmt.specs.declared.PmtListed.{PmtListed}
use Rattle.pmt.specs.declared.Stream.{Stream}
use Rattle.pmt.specs.declared.Place.{Place}

-- the header, "PCR_PID", how many descriptors the program's own loop has, and how many entries follow it
pub record PmtHeading : Type 0 where
  pub heading : Heading
  pub pcr_pid : ℕ
  pub descriptors : ℕ
  pub entries : ℕ

-- what the code's header says
abbrev pub heading_by : PmtHeader → PmtHeading
heading_by h = record { heading = told_head h.head; pcr_pid = h.pcr_pid.0; descriptors = h.descriptors; entries = h.entries }

-- what `pmt_header` answers
abbrev pub told_pmt_header : Result PmtHeader Refusal → Answer PmtHeading
told_pmt_header = told heading_by

-- the header and PCR_PID, where in the section the program's own descriptors start and how many bytes they have, and how many entries follow
pub record PmtListing : Type 0 where
  pub heading : Heading
  pub pcr_pid : ℕ
  pub start : ℕ
  pub size : ℕ
  pub entries : ℕ

-- what the code's listing says
abbrev pub listing_by : PmtListed → PmtListing
listing_by h = record { heading = told_head h.head; pcr_pid = h.pcr_pid.0; start = h.start; size = h.size; entries = h.entries }

-- what `pmt_entries` answers
abbrev pub told_pmt_listed : Result PmtListed Refusal → Answer PmtListing
told_pmt_listed = told listing_by

-- "entries of stream_type, PID, ES_info_length", and how many descriptors that length holds
pub record ElementaryStream : Type 0 where
  pub stream_type : ℕ
  pub pid : ℕ
  pub descriptors : ℕ

-- what the code's entry says
abbrev pub stream_by : Stream → ElementaryStream
stream_by s = record { stream_type = s.stream_type; pid = s.pid.0; descriptors = s.descriptors }

-- what `pmt_entry` answers
abbrev pub told_pmt_entry : Result Stream Refusal → Answer ElementaryStream
told_pmt_entry = told stream_by

-- "Descriptors are tag, length, bytes": the tag, where in the section the bytes start, and the length
pub record DescriptorPlace : Type 0 where
  pub tag : ℕ
  pub start : ℕ
  pub size : ℕ

-- what the code's place says
abbrev pub place_by : Place → DescriptorPlace
place_by p = record { tag = p.tag; start = p.start; size = p.size }

-- what `program_descriptor` and `entry_descriptor` answer
abbrev pub told_pmt_descriptor : Result Place Refusal → Answer DescriptorPlace
told_pmt_descriptor = told place_by
