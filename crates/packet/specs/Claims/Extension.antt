-- Document 02, ticket 6: an extension and its bytes are made of each other. What was read is written again as the bytes were, what is written so is accepted and read back, and without an extension all is as document 01 says.
use Rattle.std.specs.Prelude.{◌≡◌, cond, ◌&&◌, List, [], ◌∷◌, ◌++◌, ℕ, ◌^◌, ◌≤◌, ◌<◌, length, take, drop, Some, None}
use Rattle.ground.specs.Answer.{refused, given}
use Rattle.ground.specs.Number.{Bytes, bytes_of, field, pack, is_flagged}
use Rattle.std.specs.declared.option.Option.{Option}
use Rattle.ground.specs.Perhaps.{presence}
use Rattle.ground.specs.Refusal.{Row, judge, Silent, ◌when◌}
use Rattle.clock.specs.Stamp.{stamp_field}
use Rattle.packet.specs.Part.{Span}
use Rattle.packet.specs.Extension.{LegalWindow, SeamlessSplice, Extended}
use Rattle.packet.specs.Adaptation.{is_wrong_length, length_of, has_flags, flags_of, is_over, is_wrong_clock, opcr_place}
use Rattle.packet.specs.Packet.{Contents, header_of, control_of, contents, header_refusals, read_packet}
use Rattle.packet.specs.Claims.Accepted.{extended_of, told_size, Ranged}

-- the bytes of a part that may be missing
abbrev pub spelt : {A : Type 0} → (A → List ℕ) → Option A → List ℕ
spelt bytes (Some x) = bytes x
spelt bytes None = []

-- the window's two: valid 1, offset 15
abbrev pub window_bytes : LegalWindow → List ℕ
window_bytes w = bytes_of 2 (pack (field 1 (cond w.valid 1 0) ∷ field 15 w.offset ∷ []))

-- the rate's three: reserved 2, rate 22
abbrev pub rate_bytes : ℕ → ℕ → List ℕ
rate_bytes reserved n = bytes_of 3 (pack (field 2 reserved ∷ field 22 n ∷ []))

-- the splice's five: a stamp's field, with the type where a stamp has its prefix
abbrev pub splice_bytes : SeamlessSplice → List ℕ
splice_bytes x = bytes_of 5 (stamp_field x.splice_type x.stamp)

-- the flags byte: window 1, rate 1, splice 1, reserved 5
abbrev pub flags_byte : ℕ → Extended → List ℕ
flags_byte reserved x =
    bytes_of 1 (pack (field 1 (presence x.window) ∷ field 1 (presence x.rate) ∷ field 1 (presence x.splice) ∷ field 5 reserved ∷ []))

-- what is told of an extension, in the order of its bytes, with the reserved bits of its flags byte and its rate
abbrev pub told_bytes : ℕ → ℕ → Extended → List ℕ
told_bytes of_flags of_rate x =
    flags_byte of_flags x ++ (spelt window_bytes x.window ++ (spelt (rate_bytes of_rate) x.rate ++ spelt splice_bytes x.splice))

-- the bytes from place i on are what is told, whatever the reserved bits are
pub record Spelt (s : List ℕ) (i : ℕ) (x : Extended) : Type 0 where
  pub of_flags : ℕ
  pub of_rate : ℕ
  pub five_bits : of_flags < 2 ^ 5
  pub two_bits : of_rate < 2 ^ 2
  pub same : take (length (told_bytes of_flags of_rate x)) (drop i s) ≡ told_bytes of_flags of_rate x

-- in every packet of bytes that is accepted what was read is what stands there
abbrev pub NothingLost : Type 0
NothingLost =
    (s : List ℕ) (p : Contents) → Bytes s → read_packet s ≡ given p → (span : Span) → p.field.extension ≡ Some span
    → Spelt s span.start (extended_of p.field)

-- ---- the other way round: nobody is refused for an extension that is right
-- document 01's own table, "2, 4 to 8"
abbrev pub plain_refusals : List ℕ → List Row
plain_refusals s =
    header_refusals s
    ++ (7 when is_wrong_length (control_of (header_of s)) (length_of s))
    ∷ (7 when (has_flags (control_of (header_of s)) s && is_over s (flags_of (control_of (header_of s)) s)))
    ∷ (8 when is_wrong_clock s 6 (is_flagged (flags_of (control_of (header_of s)) s) 4))
    ∷ (8 when is_wrong_clock s (opcr_place (flags_of (control_of (header_of s)) s)) (is_flagged (flags_of (control_of (header_of s)) s) 3))
    ∷ []

-- a packet that document 01 does not refuse, and in whose extension what is told stands inside n, is accepted and tells just that
abbrev pub ReadBack : Type 0
ReadBack =
    (s : List ℕ) (span : Span) (x : Extended) → Silent (plain_refusals s) → (contents s).field.extension ≡ Some span
    → Ranged x → told_size x ≤ span.size → Spelt s span.start x
    → (read_packet s ≡ given (contents s)) × (extended_of (contents s).field ≡ x)

-- a packet without an extension is answered by document 01's own table, and tells none of the three
abbrev pub AsBefore : Type 0
AsBefore =
    (s : List ℕ) → (contents s).field.extension ≡ None
    → (read_packet s ≡ judge refused (plain_refusals s) (given (contents s)))
    × (extended_of (contents s).field ≡ record { window = None; rate = None; splice = None })
