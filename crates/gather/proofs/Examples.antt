-- The longest section is gathered and one more byte of it gives it up, a stuck counter shows, and counts add up: all are computed, packet after packet.
-- Assumes nothing.
use mathlib.Core.Path.{refl}
use Rattle.gather.specs.Kind.{kind_of, classify}
use Rattle.gather.specs.Rule.{walk, add, started, begun_in, rule}
use Rattle.gather.specs.Examples.{Longest, Stuck, Counted}

pub longest_is : Longest
unfolding kind_of classify walk add started begun_in rule
longest_is = (refl, refl)

pub stuck_is : Stuck
unfolding kind_of classify walk add started begun_in rule
stuck_is = (refl, refl)

pub counted_is : Counted
unfolding kind_of classify walk add started begun_in rule
counted_is = refl
