-- What was met and what is left to compare are what the answer hangs on.
-- Assumes nothing.
use mathlib.Core.Path.{◌≡◌}
use mathlib.Core.Bool.{not, ◌&&◌}
use lib.ListN.{drop}
use Rattle.sound.specs.Steps.{is_new}
use Rattle.sound.proofs.is_new.Given as goal

abbrev pub invariant-loop-other : goal.invariant-loop-other
invariant-loop-other l = (not l.met && is_new l.own (drop l.other-index l.others)) ≡ is_new l.own l.others
