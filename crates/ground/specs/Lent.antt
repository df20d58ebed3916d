-- Bytes that a caller lends, and the parts of them that are handed back.
use Rattle.std.specs.Prelude.{List, ℕ, ◌+◌, take, drop}
use Rattle.std.specs.Borrow.{Bor}

-- lent bytes: where they stand in memory, by the two parts of the pointer, and what they are
pub record Lent : Type 0 where
  pub block : ℕ
  pub offset : ℕ
  pub bytes : List ℕ

-- what a slice of the code lends
abbrev pub lent : Bor (List ℕ) → Lent
lent r = record { block = r.ref_ptr.0; offset = r.ref_ptr.1; bytes = r.now }

-- the part of lent bytes from place i on
abbrev pub part_from : Lent → ℕ → Lent
part_from l i = record { block = l.block; offset = l.offset + i; bytes = drop i l.bytes }

-- the n bytes from place i on
abbrev pub part : Lent → ℕ → ℕ → Lent
part l i n = record { block = l.block; offset = l.offset + i; bytes = take n (drop i l.bytes) }
