-- All of a PMT's entries, written to four lent lists in one reading (document 01, Tables).
use Rattle.std.specs.Prelude.{List, ◌∷◌, map, ℕ, ◌+◌, ltb, length}
use Rattle.std.specs.declared.result.Result.{Result}
use Rattle.ground.specs.declared.Refusal.{Refusal}
use Rattle.ground.specs.Answer.{Answer, refused, given}
use Rattle.ground.specs.Number.{bits}
use Rattle.ground.specs.Refusal.{Row, judge, ◌when◌}
use Rattle.ground.specs.Write.{put}
use Rattle.psi.specs.Section.{word_at, heading_of, pid_field}
use Rattle.loops.specs.Loop.{Entry}
use Rattle.loops.specs.Body.{info_length, streams_of, pmt_refusals}
use Rattle.pmt.specs.Answers.{PmtListing, told_pmt_listed}
use Rattle.pmt.specs.Pmt.{stream_of}
use Rattle.pmt.specs.declared.PmtListed.{PmtListed}

-- "stream_type, PID"
abbrev pub type_of : Entry → ℕ
type_of e = (stream_of e).stream_type

abbrev pub pid_of : Entry → ℕ
pid_of e = (stream_of e).pid

-- "An entry is followed by its descriptors": where these start, behind the five bytes that lead it
abbrev pub start_of : Entry → ℕ
start_of e = e.at + 5

-- "ES_info_length": how many bytes they have
abbrev pub size_of : Entry → ℕ
size_of e = bits (word_at e.lead 3) 0 12

-- the lent lists, one for each field of an entry
pub record Lists : Type 0 where
  pub types : List ℕ
  pub pids : List ℕ
  pub starts : List ℕ
  pub sizes : List ℕ

abbrev pub lists : List ℕ → List ℕ → List ℕ → List ℕ → Lists
lists types pids starts sizes = record { types = types; pids = pids; starts = starts; sizes = sizes }

-- a field of each entry, one after the other
abbrev pub each_of : (Entry → ℕ) → List ℕ → List ℕ
each_of field s = map field (streams_of s).items

-- the lists, written from their start on
abbrev pub written_to : Lists → List ℕ → Lists
written_to l s =
    lists (put l.types 0 (each_of type_of s))
    (put l.pids 0 (each_of pid_of s))
    (put l.starts 0 (each_of start_of s))
    (put l.sizes 0 (each_of size_of s))

-- what the reading answers of a PMT: the program's descriptors start at byte 12, and program_info_length says how many bytes they have
abbrev pub pmt_listing_of : List ℕ → PmtListing
pmt_listing_of s =
    record { heading = heading_of s; pcr_pid = pid_field (word_at s 8); start = 12; size = info_length s; entries = length (streams_of s).items }

-- what the reading leaves: its answer, and the lists
pub record Listed : Type 0 where
  pub answer : Answer PmtListing
  pub lists : Lists

-- the same of the call's answer and the lists after it
abbrev pub listed : Result PmtListed Refusal → Lists → Listed
listed r l = record { answer = told_pmt_listed r; lists = l }

-- "A refusal gives its number alone .. and writes nothing"
abbrev pub unlisted : Lists → ℕ → Listed
unlisted l n = record { answer = refused n; lists = l }

-- refusal 3, of lists without a place for each of the entries, "At most 201"; then 20, 23, 21, 25, 22, 24, 26
abbrev pub pmt_list_refusals : List ℕ → Lists → List Row
pmt_list_refusals s l =
    (3 when ltb (length l.types) 201)
    ∷ (3 when ltb (length l.pids) 201)
    ∷ (3 when ltb (length l.starts) 201)
    ∷ (3 when ltb (length l.sizes) 201)
    ∷ pmt_refusals s

-- the answer and the written lists; or the first refusal that applies
abbrev pub pmt_list_of : List ℕ → Lists → Listed
pmt_list_of s l = judge (unlisted l) (pmt_list_refusals s l) (record { answer = given (pmt_listing_of s); lists = written_to l s })
