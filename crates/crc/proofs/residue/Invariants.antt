-- `crc::residue` meets its contract: at a group the register, when it has gone through and with the bytes from that group on still to go in, ends at the residue; a turn adds four bytes.
-- Assumes nothing.
use Prim.Native.Nat.{◌+◌, ◌*◌, ◌%◌, ◌<◌, ◌^◌}
use lib.ListN.{length}
use Rattle.crc.specs.Steps.{Enters}
use Rattle.crc.proofs.residue.Given as goal

abbrev pub invariant-loop-four : goal.invariant-loop-four
invariant-loop-four l = (l.key < 2 ^ 32) × Enters l.bytes (length l.bytes % 4 + 4 * l.four-index) l.key
