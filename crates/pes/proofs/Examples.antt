-- Two headers of published recordings, one without optional header, and request 12's, by computation.
-- Assumes nothing.
use mathlib.Core.Path.{◌≡◌, refl}
use mathlib.Core.Bool.{false}
use mathlib.Core.List.{List, [], ◌∷◌}
use Prim.Native.Nat.{ℕ}
use Rattle.ground.specs.Answer.{refused, given}
use Rattle.pes.specs.Stamps.{Times, none, pts, both}
use Rattle.pes.specs.Header.{Full, full, bare, read_header}

-- a header in which nothing but the stamps is flagged
abbrev pub unflagged : ℕ → ℕ → ℕ → Times → Full
unflagged id packet_length header_length times =
    record {
      stream_id = id;
      packet_length = packet_length;
      header_length = header_length;
      stamps = times;
      escr = false;
      rate = false;
      trick = false;
      copy = false;
      crc = false;
      extension = false;
    }

-- audio with a PTS and two bytes of stuffing: sharedmime_settopbox.ts, packet 273
abbrev pub audio : List ℕ
audio = 0x00 ∷ 0x00 ∷ 0x01 ∷ 0xC0 ∷ 0x16 ∷ 0xFA ∷ 0x8B ∷ 0x80 ∷ 0x07 ∷ 0x2B ∷ 0xB0 ∷ 0x2D ∷ 0x97 ∷ 0x37 ∷ 0xFF ∷ 0xFF ∷ []

pub audio_read : read_header audio ≡ given (full (unflagged 0xC0 5882 7 (pts 6107646875)))
audio_read = refl

-- video of no stated length with a PTS and a DTS: kfilemetadata_test.ts, packet 3
abbrev pub video : List ℕ
video =
    0x00 ∷ 0x00 ∷ 0x01 ∷ 0xE0 ∷ 0x00 ∷ 0x00 ∷ 0x80 ∷ 0xC0 ∷ 0x0A
    ∷ 0x31 ∷ 0x00 ∷ 0x07 ∷ 0xF5 ∷ 0xB5
    ∷ 0x11 ∷ 0x00 ∷ 0x07 ∷ 0xD8 ∷ 0x61
    ∷ []

pub video_read : read_header video ≡ given (full (unflagged 0xE0 0 10 (both 129754 126000)))
video_read = refl

-- a padding stream
pub padding_read : read_header (0x00 ∷ 0x00 ∷ 0x01 ∷ 0xBE ∷ 0x01 ∷ 0x02 ∷ 0xFF ∷ []) ≡ given (bare 0xBE 258)
padding_read = refl

-- ---- request 12
-- the id 0xF2 is refused 38
pub dsmcc_read : read_header (0x00 ∷ 0x00 ∷ 0x01 ∷ 0xF2 ∷ 0x00 ∷ 0x05 ∷ []) ≡ refused 38
dsmcc_read = refl

-- also where 37 would apply
pub dsmcc_endless : read_header (0x00 ∷ 0x00 ∷ 0x01 ∷ 0xF2 ∷ 0x00 ∷ 0x00 ∷ []) ≡ refused 38
dsmcc_endless = refl

-- but not under 6 bytes
pub dsmcc_short : read_header (0x00 ∷ 0x00 ∷ 0x01 ∷ 0xF2 ∷ 0x00 ∷ []) ≡ refused 30
dsmcc_short = refl

-- the next id has its optional header as before
pub next_read : read_header (0x00 ∷ 0x00 ∷ 0x01 ∷ 0xF3 ∷ 0x00 ∷ 0x03 ∷ 0x80 ∷ 0x00 ∷ 0x00 ∷ []) ≡ given (full (unflagged 0xF3 3 0 none))
next_read = refl
