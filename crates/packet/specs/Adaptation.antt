-- Document 01, "The packet"; H.222.0 2.4.3.4 and 2.4.3.5: the adaptation field of a packet s with a given adaptation control.
use Rattle.std.specs.Prelude.{Bool, cond, not, ◌&&◌, ◌||◌, List, [], ◌∷◌, ℕ, ◌+◌, ◌*◌, leb, ltb, eqb, ℤ, pos, ◌-ℤ◌, get_or}
use Rattle.ground.specs.Number.{bits, is_flagged, number_at}
use Rattle.ground.specs.Refusal.{Row, ◌when◌}
use Rattle.std.specs.Option.{option_map}
use Rattle.clock.specs.declared.reference.Reference.{Reference}
use Rattle.clock.specs.Reference.{extension_of, reference_of}
use Rattle.std.specs.declared.option.Option.{Option}
use Rattle.ground.specs.Perhaps.{perhaps}
use Rattle.packet.specs.Part.{Span, told_part, part_at, part_size}
use Rattle.packet.specs.Extension.{LegalWindow, SeamlessSplice, told_window, told_splice, extended_in, is_cramped, has_wrong_splice}
use Rattle.packet.specs.declared.adaptation.Adaptation.{Adaptation}

-- "The reading says which fields are there"
pub record AdaptationField : Type 0 where
  pub size : Option ℕ
  pub discontinuity : Bool
  pub random_access : Bool
  pub stream_priority : Bool
  pub pcr : Option ℕ
  pub opcr : Option ℕ
  pub countdown : Option ℤ
  pub private_data : Option Span
  pub extension : Option Span
  pub window : Option LegalWindow
  pub rate : Option ℕ
  pub splice : Option SeamlessSplice

-- ---- what the types of the code say in document 01's terms
-- a PCR or an OPCR, as a count of 27 MHz
abbrev pub told_clock : Option Reference → Option ℕ
told_clock = option_map (λ (v : Reference). v.0)

-- the whole field
abbrev pub told_field : Adaptation → AdaptationField
told_field a =
    record {
      size = a.length;
      discontinuity = a.discontinuity;
      random_access = a.random_access;
      stream_priority = a.stream_priority;
      pcr = told_clock a.pcr;
      opcr = told_clock a.opcr;
      countdown = a.countdown;
      private_data = told_part a.private_data;
      extension = told_part a.extension;
      window = told_window a.window;
      rate = a.rate;
      splice = told_splice a.splice;
    }

-- ---- length and flags
-- controls 10 and 11 have the field
abbrev pub has_field : ℕ → Bool
has_field control = leb 2 control

-- the byte after the header: how many bytes of the field come after it
abbrev pub length_of : List ℕ → ℕ
length_of s = get_or s 4 0

-- "Control 10: adaptation length exactly 183 .. Control 11: length 0 to 182"
abbrev pub is_wrong_length : ℕ → ℕ → Bool
is_wrong_length control n = (eqb control 2 && not (eqb n 183)) || (eqb control 3 && ltb 182 n)

-- "Length 0 means no flags byte. Otherwise one flags byte"
abbrev pub has_flags : ℕ → List ℕ → Bool
has_flags control s = has_field control && not (eqb (length_of s) 0)

-- the flags byte; where there is none, nothing is flagged
abbrev pub flags_of : ℕ → List ℕ → ℕ
flags_of control s = cond (has_flags control s) (get_or s 5 0) 0

-- a flag of the flags byte, by how many come after it, as 0 or 1
abbrev pub flag : ℕ → ℕ → ℕ
flag flags k = bits flags k 1

-- ---- "then, each if flagged: PCR 6, OPCR 6, splice countdown 1 (signed), private data 1 + n, extension 1 + n": where each begins; the PCR at place 6
-- the OPCR
abbrev pub opcr_place : ℕ → ℕ
opcr_place flags = 6 + 6 * flag flags 4

-- the splice countdown
abbrev pub countdown_place : ℕ → ℕ
countdown_place flags = opcr_place flags + 6 * flag flags 3

-- the private data's length byte
abbrev pub private_place : ℕ → ℕ
private_place flags = countdown_place flags + flag flags 2

-- the extension's length byte
abbrev pub extension_place : List ℕ → ℕ → ℕ
extension_place s flags = private_place flags + part_size (part_at s (private_place flags) (is_flagged flags 1))

-- the extension
abbrev pub extension_part : List ℕ → ℕ → Option Span
extension_part s flags = part_at s (extension_place s flags) (is_flagged flags 0)

-- where the flagged fields end and stuffing begins
abbrev pub fields_end : List ℕ → ℕ → ℕ
fields_end s flags = extension_place s flags + part_size (extension_part s flags)

-- "Their sum with the flags byte must not pass the length": the field ends at place 5 + length
abbrev pub is_over : List ℕ → ℕ → Bool
is_over s flags = ltb (5 + length_of s) (fields_end s flags)

-- "a PCR or OPCR extension is above 299"
abbrev pub is_wrong_clock : List ℕ → ℕ → Bool → Bool
is_wrong_clock s i flagged = flagged && ltb 299 (extension_of (number_at s i 6))

-- ---- what is read
-- a clock reference at place i
abbrev pub clock_at : List ℕ → ℕ → Bool → Option ℕ
clock_at s i flagged = perhaps flagged (reference_of (number_at s i 6))

-- "splice countdown 1 (signed)": two's complement
abbrev pub signed_of : ℕ → ℤ
signed_of b = cond (ltb b 128) (pos b) (pos b -ℤ pos 256)

-- the splice countdown at place i
abbrev pub countdown_at : List ℕ → ℕ → Bool → Option ℤ
countdown_at s i flagged = perhaps flagged (signed_of (get_or s i 0))

-- the field whose flags byte is `flags`
abbrev pub flagged_field : List ℕ → Option ℕ → ℕ → AdaptationField
flagged_field s size flags =
    record {
      size = size;
      discontinuity = is_flagged flags 7;
      random_access = is_flagged flags 6;
      stream_priority = is_flagged flags 5;
      pcr = clock_at s 6 (is_flagged flags 4);
      opcr = clock_at s (opcr_place flags) (is_flagged flags 3);
      countdown = countdown_at s (countdown_place flags) (is_flagged flags 2);
      private_data = part_at s (private_place flags) (is_flagged flags 1);
      extension = extension_part s flags;
      window = (extended_in s (extension_part s flags)).window;
      rate = (extended_in s (extension_part s flags)).rate;
      splice = (extended_in s (extension_part s flags)).splice;
    }

-- the field of a packet with this control
abbrev pub field_of : ℕ → List ℕ → AdaptationField
field_of control s = flagged_field s (perhaps (has_field control) (length_of s)) (flags_of control s)

-- the rows that look at the values of flagged fields
abbrev pub value_refusals : List ℕ → ℕ → List Row
value_refusals s flags =
    (8 when is_wrong_clock s 6 (is_flagged flags 4))
    ∷ (8 when is_wrong_clock s (opcr_place flags) (is_flagged flags 3))
    ∷ (36 when has_wrong_splice s (extension_part s flags))
    ∷ []

-- the rows that look at the flagged fields: the fit is judged before the values
abbrev pub flagged_refusals : List ℕ → Bool → ℕ → List Row
flagged_refusals s present flags =
    (7 when (present && is_over s flags))
    ∷ (7 when is_cramped s (extension_part s flags))
    ∷ value_refusals s flags

-- "7: the adaptation field doesn't fit; 8: a PCR or OPCR extension is above 299"; with ticket 6 of document 02 "36 for a marker, after 8"
abbrev pub field_refusals : ℕ → List ℕ → List Row
field_refusals control s = (7 when is_wrong_length control (length_of s)) ∷ flagged_refusals s (has_flags control s) (flags_of control s)
