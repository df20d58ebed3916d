-- Document 02, ticket 12: "A PES packet with stream_id 0xF2 is now refused; the next is read as usual."
use Rattle.std.specs.Prelude.{◌≡◌, Bool, false, cond, not, ◌||◌, List, [], ◌∷◌, ◌↔◌, ℕ, ◌≤◌, ltb, eqb, length}
use Rattle.ground.specs.Answer.{Answer, refused, given}
use Rattle.ground.specs.Number.{number_at}
use Rattle.ground.specs.Refusal.{Row, judge, ◌when◌}
use Rattle.pes.specs.Stream.{is_bare, is_endless}
use Rattle.pes.specs.Header.{HeaderContents, full, bare, id_of, packet_length_of, optional_refusals, optional_of, read_header}

-- such a packet: its first six bytes are there, they start with 00 00 01, and it has the id
pub record Dsmcc (s : List ℕ) : Type 0 where
  pub six_bytes : 6 ≤ length s
  pub start_code : number_at s 0 3 ≡ 1
  pub id : id_of s ≡ 0xF2

-- the stream_id of an answer
abbrev pub told_id : HeaderContents → ℕ
told_id (full h) = h.stream_id
told_id (bare id packet_length) = id

-- ---- a header as document 01 has it, before the ticket
-- "These stream_ids have no optional header: 0xBC, 0xBE, 0xBF, 0xF0, 0xF1, 0xF2, 0xF8, 0xFF"
abbrev pub plain_bare : ℕ → Bool
plain_bare id =
    ((((((eqb id 0xBC || eqb id 0xBE) || eqb id 0xBF) || eqb id 0xF0) || eqb id 0xF1) || eqb id 0xF2) || eqb id 0xF8) || eqb id 0xFF

-- "30 (under 6 bytes), 31, 32, 37", and then the rows of an optional header
abbrev pub plain_refusals : List ℕ → List Row
plain_refusals s =
    (30 when ltb (length s) 6)
    ∷ (31 when not (eqb (number_at s 0 3) 1))
    ∷ (32 when ltb (id_of s) 0xBC)
    ∷ (37 when is_endless (id_of s) (packet_length_of s))
    ∷ cond (plain_bare (id_of s)) [] (optional_refusals s)

-- the reading
abbrev pub plain_header : List ℕ → Answer HeaderContents
plain_header s = judge refused (plain_refusals s) (given (cond (plain_bare (id_of s)) (bare (id_of s) (packet_length_of s)) (optional_of s)))

-- ---- what the ticket asks of a reading
pub record WithoutDsmcc (read : List ℕ → Answer HeaderContents) : Type 0 where
  -- "Refusals: 38": such packets are refused so, and no others
  pub refused_exactly : (s : List ℕ) → (read s ≡ refused 38) ↔ Dsmcc s
  -- no answer has the id
  pub never_told : (s : List ℕ) (c : HeaderContents) → read s ≡ given c → told_id c ≡ 0xF2 → ⊥
  -- whatever is no such packet is answered as document 01 says
  pub as_before : (s : List ℕ) → (Dsmcc s → ⊥) → read s ≡ plain_header s

-- the call's reading is such a one, and there is no other
pub record DsmccGoes : Type 0 where
  -- "Demand 2's PES table loses that row"
  pub not_bare : is_bare 0xF2 ≡ false
  pub ours : WithoutDsmcc read_header
  pub only : (read : List ℕ → Answer HeaderContents) → WithoutDsmcc read → (s : List ℕ) → read s ≡ read_header s
