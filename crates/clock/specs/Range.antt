-- Document 01, "Numbers of the house": the ranges of stamps and clock references.
use Rattle.std.specs.Prelude.{ℕ, ◌*◌, ◌^◌, Bool, nat_le}

-- Stamp: 0 to 2^33 − 1
abbrev pub stamp_turn : ℕ
stamp_turn = 2 ^ 33

-- Clock reference: 0 to 2,576,980,377,599 (below 300·2^33)
abbrev pub reference_turn : ℕ
reference_turn = 300 * 2 ^ 33

-- "a clock value out of range", of a stamp
abbrev pub is_no_stamp : ℕ → Bool
is_no_stamp v = nat_le stamp_turn v

-- the same of a clock reference
abbrev pub is_no_reference : ℕ → Bool
is_no_reference v = nat_le reference_turn v
