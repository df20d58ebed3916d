-- A worked example, by computation: a PAT of two entries, read one by one and at once.
-- Assumes nothing.
use mathlib.Core.Path.{◌≡◌, refl}
use mathlib.Core.Bool.{true}
use mathlib.Core.List.{List, [], ◌∷◌}
use Prim.Native.Nat.{ℕ}
use lib.ListN.{take, replicate}
use Rattle.ground.specs.Answer.{refused, given}
use Rattle.ground.specs.Write.{put}
use Rattle.crc.specs.Figure.{tick, decoder, right}
use Rattle.pat.specs.Answers.{PatHeading}
use Rattle.pat.specs.Pat.{pat_of, pat_header_of, pat_entry_of}
use Rattle.pat.specs.Listed.{Listed, unlisted, pat_list_of}

-- the network's PID is 0x0010, and program 1 is mapped by PID 0x0100
abbrev pub pat : List ℕ
pat =
    0x00 ∷ 0xB0 ∷ 0x11 ∷ 0x00 ∷ 0x01 ∷ 0xC1 ∷ 0x00 ∷ 0x00 ∷ 0x00 ∷ 0x00 ∷ 0xE0 ∷ 0x10 ∷ 0x00 ∷ 0x01 ∷ 0xE1 ∷ 0x00 ∷ 0x9E ∷ 0xA6 ∷ 0x64 ∷ 0x96 ∷ []

abbrev heading : PatHeading
heading = record { heading = record { id = 1; version = 0; current = true; section_number = 0; last_number = 0 }; entries = 2 }

pub pat_header : pat_header_of pat ≡ given heading
unfolding tick decoder right pat_of
pat_header = refl

pub pat_network : pat_entry_of pat 0 ≡ given (record { program_number = 0; pid = 0x0010 })
unfolding tick decoder right pat_of
pat_network = refl

pub pat_program : pat_entry_of pat 1 ≡ given (record { program_number = 1; pid = 0x0100 })
unfolding tick decoder right pat_of
pat_program = refl

pub pat_third : pat_entry_of pat 2 ≡ refused 27
unfolding tick decoder right pat_of
pat_third = refl

-- ---- all its entries in one reading, to lists of 253 places
abbrev places : List ℕ
places = replicate 253 7

abbrev whole : Listed
whole = pat_list_of pat places places

pub pat_listed : whole.answer ≡ given heading
unfolding tick decoder right pat_of
pat_listed = refl

pub pat_programs : take 3 whole.programs ≡ 0 ∷ 1 ∷ 7 ∷ []
unfolding tick decoder right pat_of put
pat_programs = refl

pub pat_pids : take 3 whole.pids ≡ 0x0010 ∷ 0x0100 ∷ 7 ∷ []
unfolding tick decoder right pat_of put
pat_pids = refl

-- A list that is one place short is refused before the section, which is no PAT here
pub pat_short : pat_list_of [] places (replicate 252 7) ≡ unlisted places (replicate 252 7) 3
pat_short = refl
