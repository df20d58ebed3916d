-- Calls as they come are the same calls last first: each turn moves one call over.
-- Assumes nothing.
use mathlib.Core.Path.{◌≡◌, refl, sym, ◌∙◌, ap}
use mathlib.Core.List.{List, [], ◌∷◌, reverse, reverse_aux, reverse-reverse}
use Rattle.runs.specs.Run.{Driver, Call, World, run_from, log_from, play_from, heard_from, start}
use Rattle.runs.specs.Demand.{InOrder}

module _ (d : Driver) (w : World) where
  played : (cs done : List Call) → play_from d (run_from d w done) cs ≡ run_from d w (reverse_aux cs done)
  played [] done = refl
  played (c ∷ cs) done = played cs (c ∷ done)

  heard : (cs done : List Call) → reverse_aux (heard_from d (run_from d w done) cs) (log_from d w done) ≡ log_from d w (reverse_aux cs done)
  heard [] done = refl
  heard (c ∷ cs) done = heard cs (c ∷ done)

pub in_order : (d : Driver) → InOrder d
in_order d store calls =
    (played d (start store) calls [], sym (reverse-reverse (heard_from d (start store) calls)) ∙ ap reverse (heard d (start store) calls []))
