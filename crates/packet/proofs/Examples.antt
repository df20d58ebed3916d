-- Five whole packets, by computation.
-- Assumes nothing.
use mathlib.Core.Path.{◌≡◌, refl}
use mathlib.Core.Bool.{true, false}
use mathlib.Core.List.{List, ◌∷◌}
use Prim.Native.Nat.{ℕ}
use lib.IntN.{negsuc}
use lib.ListN.{replicate}
use Rattle.ground.specs.Answer.{given}
use Rattle.std.specs.Prelude.{Some, None}
use Rattle.packet.specs.Steps.{bare_field}
use Rattle.packet.specs.Part.{Span}
use Rattle.packet.specs.Extension.{Extended}
use Rattle.packet.specs.Packet.{Contents, read_packet}
use Rattle.packet.specs.Payload.{payload_start}

-- the first packet of document 01's listing: payload only
abbrev pub section : List ℕ
section = 0x47 ∷ 0x40 ∷ 0x00 ∷ 0x10 ∷ 0x00 ∷ 0x80 ∷ 0x30 ∷ 0x01 ∷ 0xAA ∷ replicate 179 0xFF

pub section_read : read_packet section ≡ given (record { unit_start = true; priority = false; pid = 0; scrambling = 0; control = 1; counter = 0; field = bare_field None })
section_read = refl

pub section_payload : payload_start section ≡ 4
section_payload = refl

-- a PCR of 27,000,000 alone: adaptation field only
abbrev pub clock : List ℕ
clock = 0x47 ∷ 0x01 ∷ 0x00 ∷ 0x2F ∷ 0xB7 ∷ 0x10 ∷ 0x00 ∷ 0x00 ∷ 0xAF ∷ 0xC8 ∷ 0x7E ∷ 0x00 ∷ replicate 176 0xFF

pub clock_read : read_packet clock ≡ given (record {
  unit_start = false;
  priority = false;
  pid = 256;
  scrambling = 0;
  control = 2;
  counter = 15;
  field = record {
    size = Some 183;
    discontinuity = false;
    random_access = false;
    stream_priority = false;
    pcr = Some 27000000;
    opcr = None;
    countdown = None;
    private_data = None;
    extension = None;
    window = None;
    rate = None;
    splice = None;
  };
})
clock_read = refl

pub clock_payload : payload_start clock ≡ 188
clock_payload = refl

-- every field: the largest PCR, an OPCR of 0, a countdown of −1, two bytes of private data, an extension of one byte that flags no part
abbrev pub full : List ℕ
full =
    0x47 ∷ 0x3F ∷ 0xFF ∷ 0xF1 ∷ 20 ∷ 0xFF
    ∷ 0xFF ∷ 0xFF ∷ 0xFF ∷ 0xFF ∷ 0xFF ∷ 0x2B
    ∷ 0x00 ∷ 0x00 ∷ 0x00 ∷ 0x00 ∷ 0x00 ∷ 0x00
    ∷ 0xFF
    ∷ 2 ∷ 0xAA ∷ 0xBB
    ∷ 1 ∷ 0x1F
    ∷ 0xFF
    ∷ replicate 163 0x00

pub full_read : read_packet full ≡ given (record {
  unit_start = false;
  priority = true;
  pid = 0x1FFF;
  scrambling = 3;
  control = 3;
  counter = 1;
  field = record {
    size = Some 20;
    discontinuity = true;
    random_access = true;
    stream_priority = true;
    pcr = Some 2576980377599;
    opcr = Some 0;
    countdown = Some (negsuc 0);
    private_data = Some (record { start = 20; size = 2 });
    extension = Some (record { start = 23; size = 1 });
    window = None;
    rate = None;
    splice = None;
  };
})
full_read = refl

pub full_payload : payload_start full ≡ 25
full_payload = refl

-- what a packet of PID 256 says whose field has an extension and nothing else
abbrev extending : ℕ → Span → Extended → Contents
extending size extension x =
    record {
      unit_start = false;
      priority = false;
      pid = 256;
      scrambling = 0;
      control = 3;
      counter = 0;
      field = record {
        size = Some size;
        discontinuity = false;
        random_access = false;
        stream_priority = false;
        pcr = None;
        opcr = None;
        countdown = None;
        private_data = None;
        extension = Some extension;
        window = x.window;
        rate = x.rate;
        splice = x.splice;
      };
    }

-- all three parts, reserved bits set: a valid window, a rate, a splice of type 5 at 90,000
abbrev pub extended : List ℕ
extended =
    0x47 ∷ 0x01 ∷ 0x00 ∷ 0x30 ∷ 13 ∷ 0x01
    ∷ 11 ∷ 0xFF
    ∷ 0x92 ∷ 0x34
    ∷ 0xEA ∷ 0xBC ∷ 0xDE
    ∷ 0x51 ∷ 0x00 ∷ 0x05 ∷ 0xBF ∷ 0x21
    ∷ replicate 170 0xFF

pub extended_read : read_packet extended ≡ given (extending 13 (record { start = 7; size = 11 }) (record {
  window = Some (record { valid = true; offset = 4660 });
  rate = Some 2800862;
  splice = Some (record { splice_type = 5; stamp = 90000 });
}))
extended_read = refl

pub extended_payload : payload_start extended ≡ 18
extended_payload = refl

-- a splice alone, of type 0 at the last stamp, and two reserved bytes behind it
abbrev pub spliced : List ℕ
spliced =
    0x47 ∷ 0x01 ∷ 0x00 ∷ 0x30 ∷ 10 ∷ 0x01
    ∷ 8 ∷ 0x20
    ∷ 0x0F ∷ 0xFF ∷ 0xFF ∷ 0xFF ∷ 0xFF
    ∷ 0x00 ∷ 0x00
    ∷ replicate 173 0xFF

pub spliced_read : read_packet spliced ≡ given (extending 10 (record { start = 7; size = 8 }) (record {
  window = None;
  rate = None;
  splice = Some (record { splice_type = 0; stamp = 8589934591 });
}))
spliced_read = refl

pub spliced_payload : payload_start spliced ≡ 15
spliced_payload = refl
