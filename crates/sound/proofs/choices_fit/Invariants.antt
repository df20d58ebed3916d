-- What was found and what is left to test are what the answer hangs on.
-- Assumes nothing.
use mathlib.Core.Path.{◌≡◌}
use mathlib.Core.Bool.{◌&&◌}
use mathlib.Core.List.{map}
use lib.ListN.{length, drop}
use Rattle.ground.specs.Walk.{all}
use Rattle.state.specs.Choice.{placed}
use Rattle.sound.specs.Sound.{sound_place}
use Rattle.sound.specs.Steps.{known}
use Rattle.sound.proofs.choices_fit.Given as goal

abbrev pub invariant-loop-number : goal.invariant-loop-number
invariant-loop-number l = (l.fits && all sound_place (drop (length l.yielded) (placed (map known l.fn.numbers) l.fn.choices))) ≡ all sound_place (placed (map known l.fn.numbers) l.fn.choices)
