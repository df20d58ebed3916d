-- The ★ cases of a packet read alone: each decides the tests on the way to its row.
-- Assumes nothing.
use borrow.Author.Tests.{eq-eqb}
use lib.ListN.{length, get_or}
use Rattle.ground.specs.Walk.{Every}
use Rattle.packet.specs.Stars.{Right, cases, field_full}

full : Right field_full
full s size sync sound control filled = rw (eq-eqb (length s) 188 size, eq-eqb (get_or s 0 0) 0x47 sync, sound, control, filled)

pub stars : Every Right cases
stars = (full, tt)
