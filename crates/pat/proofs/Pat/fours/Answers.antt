-- The entries are the groups of four of the bytes between the header and CRC_32.
-- Assumes nothing.
use mathlib.Core.Path.{◌≡◌, sym, ◌∙◌}
use native.Mathlib.Omega.{arith}
use Rattle.pat.specs.Pat.{pat_of}
use Rattle.pat.proofs.Programs.{pat_chunks, pat_count}
use Rattle.pat.proofs.Pat.fours.Goals as goal

pub returns : goal.returns
returns c =
    let s = c.args.self.section.now in
    let items : c.as_chunks.result.0.now ≡ (pat_of s).items = c.as_chunks.ensures.front ∙ sym (pat_chunks s c.args.self.long) in
    let count = pat_count s c.args.self.long in
    record { items = items; few = rw items (omega arith) }
