-- Document 01, "The packet"; H.222.0 2.4.3.2 and 2.4.3.3: a packet read alone.
use Rattle.std.specs.Prelude.{Bool, not, List, [], ◌∷◌, ◌++◌, ℕ, eqb, length, get_or}
use Rattle.ground.specs.House.{packet_bytes}
use Rattle.ground.specs.Answer.{Answer, refused, given}
use Rattle.ground.specs.Number.{bits, is_flagged, number_at}
use Rattle.ground.specs.Refusal.{Row, judge, ◌when◌}
use Rattle.packet.specs.Adaptation.{AdaptationField, told_field, field_refusals, field_of}
use Rattle.packet.specs.declared.Packet.{Packet}
use Rattle.std.specs.declared.result.Result.{Result}
use Rattle.ground.specs.declared.Refusal.{Refusal}
use Rattle.ground.specs.Told.{told}

-- one field for each thing read
pub record Contents : Type 0 where
  pub unit_start : Bool
  pub priority : Bool
  pub pid : ℕ
  pub scrambling : ℕ
  pub control : ℕ
  pub counter : ℕ
  pub field : AdaptationField

-- what a reading says in document 01's terms
abbrev pub told_packet : Packet → Contents
told_packet p =
    record {
      unit_start = p.unit_start;
      priority = p.priority;
      pid = p.pid.0;
      scrambling = p.scrambling;
      control = p.control;
      counter = p.counter;
      field = told_field p.field;
    }

-- the same of the call's answer
abbrev pub told_reading : Result Packet Refusal → Answer Contents
told_reading = told told_packet

-- "After the sync byte: error indicator, unit start, priority, PID (13 bits), scrambling (2), adaptation control (2), continuity counter (4)": 24 bits
abbrev pub header_of : List ℕ → ℕ
header_of s = number_at s 1 3

-- the error indicator
abbrev pub is_error : ℕ → Bool
is_error h = is_flagged h 23

-- the adaptation control
abbrev pub control_of : ℕ → ℕ
control_of h = bits h 4 2

-- the contents by the header's bits and the adaptation field
abbrev pub contents_of : ℕ → AdaptationField → Contents
contents_of h field =
    record {
      unit_start = is_flagged h 22;
      priority = is_flagged h 21;
      pid = bits h 8 13;
      scrambling = bits h 6 2;
      control = control_of h;
      counter = bits h 0 4;
      field = field;
    }

-- what a packet says where it is not refused
abbrev pub contents : List ℕ → Contents
contents s = contents_of (header_of s) (field_of (control_of (header_of s)) s)

-- "Reading a packet alone: 2, 4 to 8": the rows that look at the header
abbrev pub header_refusals : List ℕ → List Row
header_refusals s =
    (2 when not (eqb (length s) packet_bytes))
    ∷ (4 when not (eqb (get_or s 0 0) 0x47))
    ∷ (5 when is_error (header_of s))
    ∷ (6 when eqb (control_of (header_of s)) 0)
    ∷ []

-- the whole table; with ticket 6 of document 02 "36 .. after 8"
abbrev pub packet_refusals : List ℕ → List Row
packet_refusals s = header_refusals s ++ field_refusals (control_of (header_of s)) s

-- a packet read alone
abbrev pub read_packet : List ℕ → Answer Contents
read_packet s = judge refused (packet_refusals s) (given (contents s))
