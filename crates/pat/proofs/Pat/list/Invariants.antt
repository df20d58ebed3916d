-- Each turn stores the next entry's two numbers: after i turns the first i of both lists stand written.
-- Assumes nothing.
use mathlib.Core.Path.{◌≡◌}
use lib.ListN.{take}
use Rattle.ground.specs.Write.{put}
use Rattle.pat.specs.Listed.{programs_of, pids_of}
use Rattle.pat.proofs.Pat.list.Given as goal

abbrev pub invariant-loop-i : goal.invariant-loop-i
invariant-loop-i l =
    (l.programs ≡ put l.initial.programs 0 (take l.i (programs_of l.fn.self.section.now)))
    × (l.pids ≡ put l.initial.pids 0 (take l.i (pids_of l.fn.self.section.now)))
