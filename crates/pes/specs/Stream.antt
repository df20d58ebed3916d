-- Document 01, "PES headers" and "Refusal numbers", and document 02, ticket 12; H.222.0 Table 2-22: what a stream_id says.
use Rattle.std.specs.Prelude.{Bool, not, ◌&&◌, ◌||◌, ℕ, leb, eqb}

-- "DSM-CC PES goes": "stream_id 0xF2 is now refused"
abbrev pub is_dsmcc : ℕ → Bool
is_dsmcc id = eqb id 0xF2

-- "These stream_ids have no optional header": document 01's but for 0xF2, which is refused; "Demand 2's PES table loses that row"
abbrev pub is_bare : ℕ → Bool
is_bare id =
    (((((eqb id 0xBC || eqb id 0xBE) || eqb id 0xBF) || eqb id 0xF0) || eqb id 0xF1) || eqb id 0xF8) || eqb id 0xFF

-- "PES_packet_length 0 and stream_id outside 0xE0..0xEF"
abbrev pub is_endless : ℕ → ℕ → Bool
is_endless id packet_length = eqb packet_length 0 && not (leb 0xE0 id && leb id 0xEF)
