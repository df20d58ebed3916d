-- No place is noted.
-- Assumes nothing.
use mathlib.Core.Path.{ap}
use mathlib.Core.List.{List}
use Prim.Native.Nat.{ℕ}
use Rattle.loops.specs.declared.walkers.Search.{Search}
use Rattle.loops.proofs.begun.Goals as goal

-- a search that has noted these places and found nothing else
abbrev noted : ℕ → ℕ → List ℕ → Search
noted asked item places = record { asked = asked; item = item; found = record { walked = record { entries = 0; descriptors = 0; place = 0 }; places = places } }

pub returns : goal.returns
returns c = ap (noted c.args.asked c.args.item) c.unnoted.ensures
