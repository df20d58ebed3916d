-- Nothing of an answer is left untold, and the tables are exact as every table is; the rest is cited.
-- Assumes nothing.
use mathlib.Core.Path.{◌≡◌, refl, ap}
use mathlib.Core.List.{List}
use Prim.Native.Nat.{ℕ, ◌+◌, ◌≤◌}
use native.Mathlib.Omega.{arith}
use Rattle.std.specs.declared.result.Result.{Result}
use Rattle.ground.specs.declared.Refusal.{Refusal}
use Rattle.ground.specs.Answer.{given}
use Rattle.ground.proofs.Judged.{exact, given_by}
use Rattle.ground.proofs.Outcome.{determined, determined_told}
use Rattle.ground.proofs.Told.{made, back, determined_answer}
use Rattle.pmt.specs.Answers.{PmtHeading, PmtListing, ElementaryStream, DescriptorPlace, heading_by, listing_by, stream_by, place_by}
use Rattle.psi.proofs.Claims.{made_head}
use Rattle.loops.specs.Body.{pmt_refusals}
use Rattle.pmt.specs.Pmt
use Rattle.pmt.specs.Listed.{Lists, Listed, listed, pmt_list_of}
use Rattle.pmt.specs.Claims.{Claims}
use Rattle.pmt.specs.declared.PmtHeader.{PmtHeader}
use Rattle.pmt.specs.declared.PmtListed.{PmtListed}
use Rattle.pmt.specs.declared.Stream.{Stream}
use Rattle.pmt.specs.declared.Place.{Place}
use Rattle.loops.proofs.Passed.{PmtPassed, pmt_passed}
use Rattle.pmt.proofs.Limits.{pmt_limit, pmt_bytes}
use Rattle.pmt.proofs.Placed.{part_inside, part_bytes}
use Rattle.pmt.proofs.Whole.{list_exact, list_header, list_entry, list_program, list_loop, list_rest}
use Rattle.pmt.proofs.Next.{next_inside, next_follows, next_ends, next_overruns}

-- ---- what says what was told
abbrev made_header : PmtHeading → PmtHeader
made_header h = record { head = made_head h.heading; pcr_pid = record { 0 = h.pcr_pid }; descriptors = h.descriptors; entries = h.entries }

abbrev made_stream : ElementaryStream → Stream
made_stream s = record { stream_type = s.stream_type; pid = record { 0 = s.pid }; descriptors = s.descriptors }

abbrev made_place : DescriptorPlace → Place
made_place p = record { tag = p.tag; start = p.start; size = p.size }

abbrev made_listing : PmtListing → PmtListed
made_listing h = record { head = made_head h.heading; pcr_pid = record { 0 = h.pcr_pid }; start = h.start; size = h.size; entries = h.entries }

-- ---- the outcome of a whole reading by its answer and its lists, and that it is the outcome
abbrev told_listed : Result PmtListed Refusal × Lists → Listed
told_listed o = listed o.0 o.1

abbrev made_listed : Listed → Result PmtListed Refusal × Lists
made_listed x = (made made_listing x.answer, x.lists)

back_listed : (o : Result PmtListed Refusal × Lists) → made_listed (told_listed o) ≡ o
back_listed o = ap (λ (r : Result PmtListed Refusal). (r, o.1)) (back listing_by made_listing (λ h. refl) o.0)

-- ---- a PMT whose header is given
module _ (s : List ℕ) (h : PmtHeading) (e : Pmt.pmt_header_of s ≡ given h) where
  passes : PmtPassed s
  passes = pmt_passed s (given_by (pmt_refusals s) (Pmt.pmt_heading_of s) h e).0

  is : h ≡ Pmt.pmt_heading_of s
  is = (given_by (pmt_refusals s) (Pmt.pmt_heading_of s) h e).1

  numbers : h.heading.section_number ≤ h.heading.last_number
  numbers = rw is (let n = passes.fixed.number in omega arith)

pub claims : Claims
claims =
    record {
      pmt_header = λ s. determined_answer heading_by made_header (λ h. refl) (Pmt.pmt_header_of s);
      pmt_entry = λ s i. determined_answer stream_by made_stream (λ s. refl) (Pmt.pmt_entry_of s i);
      program_descriptor = λ s i. determined_answer place_by made_place (λ p. refl) (Pmt.descriptor_in s 0 i);
      entry_descriptor = λ s e i. determined_answer place_by made_place (λ p. refl) (Pmt.descriptor_in s (e + 1) i);
      program_descriptor_bytes = λ l i. determined (Pmt.part_of l (Pmt.descriptor_in l.bytes 0 i));
      entry_descriptor_bytes = λ l e i. determined (Pmt.part_of l (Pmt.descriptor_in l.bytes (e + 1) i));
      pmt_header_exact = λ s. exact (pmt_refusals s) (Pmt.pmt_heading_of s);
      pmt_entry_exact = λ s i. exact (Pmt.pmt_entry_refusals s i) _;
      descriptor_exact = λ s number i. exact (Pmt.descriptor_refusals s number i) _;
      pmt_limit = λ s h e. rw (is s h e) (pmt_limit s (passes s h e));
      pmt_bytes = λ s h e. pmt_bytes s (passes s h e);
      pmt_numbers = numbers;
      part_inside = part_inside;
      part_bytes = part_bytes;
      next_descriptor = λ bytes at. determined_answer place_by made_place (λ p. refl) (Pmt.next_of bytes at);
      next_exact = λ bytes at. exact (Pmt.next_refusals bytes at) _;
      next_inside = next_inside;
      next_follows = next_follows;
      next_ends = next_ends;
      next_overruns = next_overruns;
      pmt_list = λ s l. determined_told told_listed made_listed back_listed (pmt_list_of s l);
      pmt_list_exact = list_exact;
      pmt_list_header = list_header;
      pmt_list_entry = list_entry;
      pmt_list_program = list_program;
      pmt_list_loop = list_loop;
      pmt_list_rest = list_rest;
    }
