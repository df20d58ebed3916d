-- `psi::judge` meets its contract: a ladder of rows, and the last is that of CRC_32, which is right where the residue is 0.
-- Assumes nothing.
use borrow.Author.Rules.{rules}
use Rattle.crc.proofs.Bridge.{right_residue}
use Rattle.psi.proofs.judge.Goals as goal

pub returns-then-residue-ne0 : goal.returns-then-residue-ne0
returns-then-residue-ne0 c = rw (right_residue c.args.section.now) (search rules)

pub returns-else-residue-ne0 : goal.returns-else-residue-ne0
returns-else-residue-ne0 c = rw (right_residue c.args.section.now) (search rules)
