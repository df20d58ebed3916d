-- What the private functions promise; no public promise cites it.
use Rattle.std.specs.Prelude.{cond, List, ℕ, ltb, length, Option, Some, None}
use Rattle.state.specs.declared.Area.{Area}
use Rattle.open_call.specs.Open.{area_for}

-- the PID's area, or the lowest free one, where there is one
abbrev pub area_found : ℕ → List Area → Option ℕ
area_found pid areas = cond (ltb (area_for pid areas) (length areas)) (Some (area_for pid areas)) None
