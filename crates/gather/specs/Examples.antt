-- Packets of one PID whose outcomes are computed: the longest section (document 01, "Examples"), a stuck counter and what is counted (requests 3 and 10 of document 02).
use Rattle.std.specs.Prelude.{◌≡◌, Bool, true, false, List, [], ◌∷◌, ◌++◌, map, ℕ, length, replicate}
use Rattle.gather.specs.Kind.{join}
use Rattle.gather.specs.Rule.{Packet, Outcome, blank, seen, rule}
use Rattle.gather.specs.Run.{run, outcomes, starts, continues, starting}

-- a section's first bytes: table_id 0x80, these two of which the section_length is read, and n bytes 0x2A
abbrev pub section : ℕ → ℕ → ℕ → List ℕ
section second third n = 0x80 ∷ second ∷ third ∷ replicate n 0x2A

-- ---- "section_length 4,093 is gathered, 4,094 given up": 23 packets, pointer 0; section_length is 0xF00 and the third byte
-- 183 bytes, 21 times 184, then 49 of the 4,096 bytes of a section and 135 bytes 0xFF
abbrev pub longest : ℕ → List Packet
longest third = starting 0 (section 0xBF third 180) (replicate 21 (replicate 184 0x2A) ++ (replicate 49 0x2A ++ replicate 135 0xFF) ∷ [])

-- one section of 4,096 bytes, and nothing is held or given up; no section, and one given up
abbrev pub Longest : Type 0
Longest =
    (run blank (longest 0xFD) ≡ record { next = record { held = []; last = seen 6 false }; sections = section 0xBF 0xFD 4093 ∷ []; given_up = 0; begun = 1 })
    × (run blank (longest 0xFE) ≡ record { next = record { held = []; last = seen 6 false }; sections = []; given_up = 1; begun = 1 })

-- ---- a section of 303 bytes (section_length 0x12C): 183 of them come with counter 5, and then packets with its other 120 bytes
abbrev pub first_part : Packet
first_part = starts 5 (0 ∷ section 0xB1 0x2C 180)

abbrev pub last_part : ℕ → Packet
last_part counter = continues counter (replicate 120 0x2A ++ replicate 64 0xFF)

abbrev pub no_payload : Packet
no_payload = continues 5 []

-- an outcome that finishes nothing: how much of the section is held after it, whether the repeat was seen, jump, repeat, and how many sections were given up and begun
abbrev pub finishes_none : List ℕ → Bool → Bool → Bool → ℕ → ℕ → Outcome
finishes_none held repeated jump repeat given_up begun =
    record { next = record { held = held; last = seen 5 repeated }; sections = []; jump = jump; repeat = repeat; given_up = given_up; begun = begun }

-- the counter's first repeat changes nothing but the mark, its next packet is a jump and gives up what was held, and the one after it a repeat again; packets without payload change nothing.
-- After one repeat alone the section is finished by the next counter
abbrev pub Stuck : Type 0
Stuck =
    (outcomes rule blank (first_part ∷ no_payload ∷ last_part 5 ∷ no_payload ∷ last_part 5 ∷ last_part 5 ∷ [])
    ≡ finishes_none (section 0xB1 0x2C 180) false false false 0 1
    ∷ finishes_none (section 0xB1 0x2C 180) false false false 0 0
    ∷ finishes_none (section 0xB1 0x2C 180) true false true 0 0
    ∷ finishes_none (section 0xB1 0x2C 180) true false false 0 0
    ∷ finishes_none [] false true false 1 0
    ∷ finishes_none [] true false true 0 0
    ∷ [])
    × (run blank (first_part ∷ first_part ∷ last_part 6 ∷ [])
    ≡ record { next = record { held = []; last = seen 6 false }; sections = section 0xB1 0x2C 300 ∷ []; given_up = 0; begun = 1 })

-- ---- what is counted
-- three sections begin, of which two end and 176 bytes of the third are held
abbrev pub three_begun : Packet
three_begun = starts 0 (0x00 ∷ 0x80 ∷ 0x30 ∷ 0x01 ∷ 0xAA ∷ 0x81 ∷ 0x30 ∷ 0x00 ∷ 0x82 ∷ 0xB1 ∷ 0x2C ∷ replicate 173 0x2A)

-- so many sections of three bytes
abbrev pub shortest : ℕ → List ℕ
shortest n = join (replicate n (0x70 ∷ 0xF0 ∷ 0x00 ∷ []))

abbrev pub counted_packets : List Packet
counted_packets =
    three_begun
    -- the same again, a repeat
    ∷ three_begun
    -- the held section ends, and one more begins and ends
    ∷ starts 1 (0x7F ∷ replicate 127 0x2A ++ 0x83 ∷ 0x30 ∷ 0x00 ∷ replicate 53 0xFF)
    -- no byte is taken as a table_id
    ∷ starts 2 (0x00 ∷ replicate 183 0xFF)
    ∷ starts 3 (0x00 ∷ 0x84 ∷ 0xB1 ∷ 0x2C ∷ replicate 180 0xFF)
    -- a jump gives up what was held, and the third section that begins is too long
    ∷ starts 9 (0x00 ∷ 0x85 ∷ 0x30 ∷ 0x00 ∷ 0x86 ∷ 0x30 ∷ 0x00 ∷ 0x87 ∷ 0x3F ∷ 0xFE ∷ replicate 174 0xFF)
    -- the last byte alone is taken as a table_id, and the next two bytes say that its section is too long
    ∷ starts 10 (0xB6 ∷ replicate 182 0xFF ++ 0x80 ∷ [])
    ∷ continues 11 (0x0F ∷ 0xFE ∷ replicate 182 0x00)
    -- 61 begin, all of them whole; 61 begin, and of the last one a byte is missing
    ∷ starts 12 (0x00 ∷ shortest 61)
    ∷ starts 13 (0x00 ∷ shortest 60 ++ 0x70 ∷ 0xF0 ∷ 0x01 ∷ [])
    ∷ continues 14 (replicate 184 0x2A)
    ∷ []

-- sections begun, finished and given up, and bytes held after the packet
abbrev pub counted_of : Outcome → List ℕ
counted_of o = o.begun ∷ length o.sections ∷ o.given_up ∷ length o.next.held ∷ []

abbrev pub Counted : Type 0
Counted =
    map counted_of (outcomes rule blank counted_packets)
    ≡ (3 ∷ 2 ∷ 0 ∷ 176 ∷ [])
    ∷ (0 ∷ 0 ∷ 0 ∷ 176 ∷ [])
    ∷ (1 ∷ 2 ∷ 0 ∷ 0 ∷ [])
    ∷ (0 ∷ 0 ∷ 0 ∷ 0 ∷ [])
    ∷ (1 ∷ 0 ∷ 0 ∷ 183 ∷ [])
    ∷ (3 ∷ 2 ∷ 2 ∷ 0 ∷ [])
    ∷ (1 ∷ 0 ∷ 0 ∷ 1 ∷ [])
    ∷ (0 ∷ 0 ∷ 1 ∷ 0 ∷ [])
    ∷ (61 ∷ 61 ∷ 0 ∷ 0 ∷ [])
    ∷ (61 ∷ 60 ∷ 0 ∷ 3 ∷ [])
    ∷ (0 ∷ 1 ∷ 0 ∷ 0 ∷ [])
    ∷ []
