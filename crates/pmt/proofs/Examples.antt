-- A worked example, by computation: a PMT of two streams, one with two descriptors, read one by one and at once, and these walked by their places.
-- Assumes nothing.
use mathlib.Core.Path.{◌≡◌, refl}
use mathlib.Core.Bool.{true}
use mathlib.Core.List.{List, [], ◌∷◌}
use Prim.Native.Nat.{ℕ}
use lib.ListN.{take, replicate}
use Rattle.ground.specs.Answer.{refused, given}
use Rattle.ground.specs.Write.{put}
use Rattle.crc.specs.Figure.{tick, decoder, right}
use Rattle.loops.specs.Loop.{descriptors_of, entries_of}
use Rattle.loops.specs.Body.{program_of, streams_of}
use Rattle.pmt.specs.Pmt.{pmt_header_of, pmt_entry_of, descriptor_in, next_of}
use Rattle.pmt.specs.Listed.{lists, Listed, unlisted, pmt_list_of}

-- program 1: the clock is on PID 0x0101, with a descriptor; video on 0x0101, and audio on 0x0102 with two descriptors
abbrev pub pmt : List ℕ
pmt =
    0x02 ∷ 0xB0 ∷ 0x26 ∷ 0x00 ∷ 0x01 ∷ 0xC5 ∷ 0x00 ∷ 0x00 ∷ 0xE1 ∷ 0x01 ∷ 0xF0 ∷ 0x06 ∷ 0x09 ∷ 0x04 ∷ 0x0B ∷ 0x00 ∷ 0xE2 ∷ 0x00 ∷ 0x1B ∷ 0xE1 ∷ 0x01 ∷ 0xF0 ∷ 0x00 ∷ 0x0F ∷ 0xE1 ∷ 0x02 ∷ 0xF0 ∷ 0x09 ∷ 0x0A ∷ 0x04 ∷ 0x65 ∷ 0x6E ∷ 0x67 ∷ 0x00 ∷ 0x52 ∷ 0x01 ∷ 0x07 ∷ 0x8D ∷ 0xD8 ∷ 0x17 ∷ 0xC9 ∷ []

pub pmt_header : pmt_header_of pmt ≡ given (record { heading = record { id = 1; version = 2; current = true; section_number = 0; last_number = 0 }; pcr_pid = 0x0101; descriptors = 1; entries = 2 })
unfolding tick decoder right program_of streams_of descriptors_of entries_of
pmt_header = refl

pub pmt_audio : pmt_entry_of pmt 1 ≡ given (record { stream_type = 0x0F; pid = 0x0102; descriptors = 2 })
unfolding tick decoder right program_of streams_of descriptors_of entries_of
pmt_audio = refl

pub pmt_program_descriptor : descriptor_in pmt 0 0 ≡ given (record { tag = 0x09; start = 14; size = 4 })
unfolding tick decoder right program_of streams_of descriptors_of entries_of
pmt_program_descriptor = refl

pub pmt_audio_descriptor : descriptor_in pmt 2 1 ≡ given (record { tag = 0x52; start = 36; size = 1 })
unfolding tick decoder right program_of streams_of descriptors_of entries_of
pmt_audio_descriptor = refl

-- the video stream has no descriptor
pub pmt_none : descriptor_in pmt 1 0 ≡ refused 27
unfolding tick decoder right program_of streams_of descriptors_of entries_of
pmt_none = refl

-- ---- all its entries in one reading, to lists of 201 places
abbrev places : List ℕ
places = replicate 201 7

abbrev whole : Listed
whole = pmt_list_of pmt (lists places places places places)

pub pmt_listed : whole.answer ≡ given (record { heading = record { id = 1; version = 2; current = true; section_number = 0; last_number = 0 }; pcr_pid = 0x0101; start = 12; size = 6; entries = 2 })
unfolding tick decoder right program_of streams_of descriptors_of entries_of
pmt_listed = refl

pub pmt_types : take 3 whole.lists.types ≡ 0x1B ∷ 0x0F ∷ 7 ∷ []
unfolding tick decoder right program_of streams_of descriptors_of entries_of put
pmt_types = refl

pub pmt_pids : take 3 whole.lists.pids ≡ 0x0101 ∷ 0x0102 ∷ 7 ∷ []
unfolding tick decoder right program_of streams_of descriptors_of entries_of put
pmt_pids = refl

-- the video stream's loop is empty and ends where the audio stream's entry begins
pub pmt_starts : take 3 whole.lists.starts ≡ 23 ∷ 28 ∷ 7 ∷ []
unfolding tick decoder right program_of streams_of descriptors_of entries_of put
pmt_starts = refl

pub pmt_sizes : take 3 whole.lists.sizes ≡ 0 ∷ 9 ∷ 7 ∷ []
unfolding tick decoder right program_of streams_of descriptors_of entries_of put
pmt_sizes = refl

-- A list that is one place short is refused before the section, which is no PMT here
pub pmt_short : pmt_list_of [] (lists places places places (replicate 200 7)) ≡ unlisted (lists places places places (replicate 200 7)) 3
pmt_short = refl

-- ---- the audio stream's loop as a part of its own, from place to place
abbrev loop : List ℕ
loop = 0x0A ∷ 0x04 ∷ 0x65 ∷ 0x6E ∷ 0x67 ∷ 0x00 ∷ 0x52 ∷ 0x01 ∷ 0x07 ∷ []

pub next_first : next_of loop 0 ≡ given (record { tag = 0x0A; start = 2; size = 4 })
next_first = refl

pub next_second : next_of loop 6 ≡ given (record { tag = 0x52; start = 8; size = 1 })
next_second = refl

pub next_end : next_of loop 9 ≡ refused 27
next_end = refl

-- from a place inside a descriptor a length of 0x67 would be read
pub next_over : next_of loop 3 ≡ refused 26
next_over = refl
