-- Document 01, "PES headers" and "Refusal numbers", and document 02, ticket 12; H.222.0 2.4.3.6 and 2.4.3.7: a PES header.
use Rattle.std.specs.Prelude.{Bool, cond, not, ◌&&◌, ◌||◌, List, [], ◌∷◌, ◌++◌, ℕ, ◌+◌, ◌*◌, ltb, eqb, length, get_or}
use Rattle.ground.specs.Answer.{Answer, refused, given}
use Rattle.ground.specs.Number.{bits, is_flagged, number_at}
use Rattle.ground.specs.Refusal.{Row, judge, ◌when◌}
use Rattle.pes.specs.Stream.{is_dsmcc, is_bare, is_endless}
use Rattle.pes.specs.Stamps.{Times, told_stamps, stamps_size, stamp_refusals, stamps_of}
use Rattle.std.specs.declared.result.Result.{Result}
use Rattle.ground.specs.declared.Refusal.{Refusal}
use Rattle.ground.specs.Told.{told}
use Rattle.pes.specs.declared.Header.{Header}
use Rattle.pes.specs.declared.Reading.{Reading}
use Rattle.pes.specs.declared.Reading.TheVariants as reading

-- "It also gives stream_id, both lengths and which other fields are flagged"
pub record Full : Type 0 where
  pub stream_id : ℕ
  pub packet_length : ℕ
  pub header_length : ℕ
  pub stamps : Times
  pub escr : Bool
  pub rate : Bool
  pub trick : Bool
  pub copy : Bool
  pub crc : Bool
  pub extension : Bool

-- "for an id without optional header, stream_id and packet length only"
pub data HeaderContents : Type 0 where
  full : Full → HeaderContents
  bare : ℕ → ℕ → HeaderContents

-- what a reading says in document 01's terms
abbrev pub told_header : Header → Full
told_header h =
    record {
      stream_id = h.stream_id;
      packet_length = h.packet_length;
      header_length = h.header_length;
      stamps = told_stamps h.stamps;
      escr = h.escr;
      rate = h.rate;
      trick = h.trick;
      copy = h.copy;
      crc = h.crc;
      extension = h.extension;
    }

-- and an id without optional header
abbrev pub told_contents : Reading → HeaderContents
told_contents (reading.Full h) = full (told_header h)
told_contents (reading.Bare id size) = bare id size

-- the same of the call's answer
abbrev pub told_reading : Result Reading Refusal → Answer HeaderContents
told_reading = told told_contents

-- ---- where things stand: prefix 3 bytes, stream_id 1, PES_packet_length 2, flags 2, PES_header_data_length 1
-- stream_id
abbrev pub id_of : List ℕ → ℕ
id_of s = get_or s 3 0

-- PES_packet_length
abbrev pub packet_length_of : List ℕ → ℕ
packet_length_of s = number_at s 4 2

-- the second byte of flags
abbrev pub second_flags : List ℕ → ℕ
second_flags s = get_or s 7 0

-- PES_header_data_length
abbrev pub header_length_of : List ℕ → ℕ
header_length_of s = get_or s 8 0

-- PTS_DTS_flags
abbrev pub code_of : ℕ → ℕ
code_of flags = bits flags 6 2

-- "stamps 0, 5 or 10 bytes, ESCR 6, ES rate 3, trick mode 1, copy info 1, CRC 2, extension at least 1"
abbrev pub fields_size : ℕ → ℕ
fields_size flags =
    stamps_size (code_of flags)
    + 6 * bits flags 5 1
    + 3 * bits flags 4 1
    + bits flags 3 1
    + bits flags 2 1
    + 2 * bits flags 1 1
    + bits flags 0 1

-- "Refusal 35 if the sum passes the header length, or a PES_packet_length other than 0 is below 3 + header length"
abbrev pub passes_length : ℕ → ℕ → ℕ → Bool
passes_length packet_length fields header_length = ltb header_length fields || (not (eqb packet_length 0) && ltb packet_length (3 + header_length))

-- ---- the table
-- "PES: 30 (under 6 bytes), 31, 32, 37", and "38, right after 32"
abbrev pub start_refusals : List ℕ → List Row
start_refusals s =
    (30 when ltb (length s) 6)
    ∷ (31 when not (eqb (number_at s 0 3) 1))
    ∷ (32 when ltb (id_of s) 0xBC)
    ∷ (38 when is_dsmcc (id_of s))
    ∷ (37 when is_endless (id_of s) (packet_length_of s))
    ∷ []

-- "30 (under 9), 33, 34, 35, 30 (under 9 + PES_header_data_length), 36"
abbrev pub optional_refusals : List ℕ → List Row
optional_refusals s =
    (30 when ltb (length s) 9)
    ∷ (33 when not (eqb (bits (get_or s 6 0) 6 2) 2))
    ∷ (34 when eqb (code_of (second_flags s)) 1)
    ∷ (35 when passes_length (packet_length_of s) (fields_size (second_flags s)) (header_length_of s))
    ∷ (30 when ltb (length s) (9 + header_length_of s))
    ∷ stamp_refusals s (code_of (second_flags s))

-- "those after 37 only for an id with an optional header"
abbrev pub pes_refusals : List ℕ → List Row
pes_refusals s = start_refusals s ++ cond (is_bare (id_of s)) [] (optional_refusals s)

-- ---- what is read
-- the header with these stamps
abbrev pub full_of : List ℕ → Times → Full
full_of s times =
    record {
      stream_id = id_of s;
      packet_length = packet_length_of s;
      header_length = header_length_of s;
      stamps = times;
      escr = is_flagged (second_flags s) 5;
      rate = is_flagged (second_flags s) 4;
      trick = is_flagged (second_flags s) 3;
      copy = is_flagged (second_flags s) 2;
      crc = is_flagged (second_flags s) 1;
      extension = is_flagged (second_flags s) 0;
    }

-- the header of an id with an optional header
abbrev pub optional_of : List ℕ → HeaderContents
optional_of s = full (full_of s (stamps_of s (code_of (second_flags s))))

-- the header of any id
abbrev pub header_contents : List ℕ → HeaderContents
header_contents s = cond (is_bare (id_of s)) (bare (id_of s) (packet_length_of s)) (optional_of s)

-- a PES header read
abbrev pub read_header : List ℕ → Answer HeaderContents
read_header s = judge refused (pes_refusals s) (given (header_contents s))
