-- A header whose first six bytes are in order reads as what is after them: nothing more, or its optional header.
-- Assumes nothing.
use mathlib.Core.Path.{◌≡◌}
use mathlib.Core.Bool.{Bool, true, false, cond}
use mathlib.Core.List.{List}
use Prim.Native.Nat.{ℕ, ◌≤◌}
use borrow.Author.Tests.{le-ltb, eq-eqb}
use lib.ListN.{length}
use Rattle.ground.specs.Answer.{given}
use Rattle.ground.specs.Number.{number_at}
use Rattle.pes.specs.Stream.{is_dsmcc, is_bare, is_endless}
use Rattle.pes.specs.Header.{bare, id_of, packet_length_of, read_header}
use Rattle.pes.specs.Steps.{read_optional, read_after_start}

pub past_start : (s : List ℕ) → 6 ≤ length s → number_at s 0 3 ≡ 1 → 0xBC ≤ id_of s → is_dsmcc (id_of s) ≡ false
    → is_endless (id_of s) (packet_length_of s) ≡ false → read_header s ≡ read_after_start s
past_start s size start id other ends = rw (le-ltb (length s) 6 size, eq-eqb (number_at s 0 3) 1 start, le-ltb (id_of s) 0xBC id, other, ends)

pub by_id : (s : List ℕ) (b : Bool) → is_bare (id_of s) ≡ b → cond b (given (bare (id_of s) (packet_length_of s))) (read_optional s) ≡ read_after_start s
by_id s true e = rw e
by_id s false e = rw e
