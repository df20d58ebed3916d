-- The answer's bytes lie inside the section, and are lent.
-- Assumes nothing.
use Prim.Native.Nat.{◌+◌}
use Rattle.pmt.proofs.Placed.{part_inside}
use Rattle.pmt.proofs.entry_descriptor_bytes.Goals as goal

pub bytes_of-requires : goal.bytes_of-requires
bytes_of-requires c = let a = c.args in rw c.entry_descriptor.ensures (part_inside a.section.now (a.entry + 1) a.index)
