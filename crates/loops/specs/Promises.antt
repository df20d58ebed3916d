-- What each public call promises of a section s.
use Rattle.std.specs.Prelude.{◌≡◌, List, ℕ}
use Rattle.std.specs.declared.result.Result.{Result}
use Rattle.ground.specs.declared.Refusal.{Refusal}
use Rattle.loops.specs.Walk.{told_walked, walk_of, told_survey, survey_of}
use Rattle.loops.specs.declared.Walked.{Walked}
use Rattle.loops.specs.declared.Surveyed.{Surveyed}

-- `walk`, which is asked for the loop with a number and an item of it
abbrev pub Walks : List ℕ → ℕ → ℕ → Result Walked Refusal → Type 0
Walks s number item r = told_walked r ≡ walk_of s number item

-- `survey`
abbrev pub Surveys : List ℕ → Result Surveyed Refusal → Type 0
Surveys s r = told_survey r ≡ survey_of s
