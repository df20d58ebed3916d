-- `crc::begun` meets its contract: at index i the register, shifted for the zero bytes and for the i bytes that are in it, ends where all bytes leave it with those from i on; a turn adds one byte at its place.
-- Assumes nothing.
use mathlib.Core.Path.{◌≡◌}
use Prim.Native.Nat.{◌+◌, ◌-◌, ◌*◌, ◌<◌, ◌^◌}
use lib.ListN.{length, drop}
use Rattle.crc_table.specs.Table.{shifts}
use Rattle.crc.specs.Steps.{enter_bytes}
use Rattle.crc.proofs.begun.Given as goal

abbrev pub invariant-loop-i : goal.invariant-loop-i
invariant-loop-i l = (l.key < 2 ^ 32) × (enter_bytes 0xFFFFFFFF l.first ≡ enter_bytes (shifts (8 * (4 - length l.first + l.i)) l.key) (drop l.i l.first))
