-- One return a row of the PAT's own.
-- Assumes nothing.
use Rattle.ground.proofs.Refused.{tests}
use Rattle.pat.proofs.Programs.{pat_fill}
use Rattle.pat.proofs.judge_own.Goals as goal

pub returns-then-s-ne0 : goal.returns-then-s-ne0
returns-then-s-ne0 c = rw (pat_fill _ c.requires) (search tests depth 20 fits 4000)

pub returns-else-s-ne0 : goal.returns-else-s-ne0
returns-else-s-ne0 c = rw (pat_fill _ c.requires) (search tests depth 20 fits 4000)
