-- What one walk over a PMT says: how many entries there are, and of one of its loops how many descriptors it has and where an item of it stands; or where all entries stand.
use Rattle.std.specs.Prelude.{List, [], ◌∷◌, ℕ, zero, suc, ◌+◌, length, set, replicate, Ok, Err}
use Rattle.std.specs.declared.result.Result.{Result}
use Rattle.ground.specs.Answer.{Answer, refused, given}
use Rattle.ground.specs.Refusal.{judge}
use Rattle.ground.specs.Told.{number_of, told}
use Rattle.ground.specs.declared.Refusal.{Refusal}
use Rattle.loops.specs.Loop.{Entry}
use Rattle.loops.specs.Body.{streams_of, pmt_refusals, entry_at, loop_at, descriptor_at}
use Rattle.loops.specs.declared.Walked.{Walked}
use Rattle.loops.specs.declared.Surveyed.{Surveyed}

-- what a walk finds
pub record Found : Type 0 where
  pub entries : ℕ
  pub descriptors : ℕ
  pub place : ℕ

abbrev pub found : ℕ → ℕ → ℕ → Found
found entries descriptors place = record { entries = entries; descriptors = descriptors; place = place }

-- what the code found
abbrev pub found_by : Walked → Found
found_by w = found w.entries w.descriptors w.place

-- what `walk` answers
abbrev pub told_walked : Result Walked Refusal → Answer Found
told_walked = told found_by

-- where an item of the loop with a number stands: item 0 is the entry that has the loop, and the program's loop has none; item i + 1 is descriptor i. 0 where there is none
abbrev pub place_of : List ℕ → ℕ → ℕ → ℕ
place_of s number (suc i) = (descriptor_at s number i).at
place_of s zero zero = 0
place_of s (suc i) zero = (entry_at s i).at

-- what is found of the loop with a number and an item of it
abbrev pub found_in : List ℕ → ℕ → ℕ → Found
found_in s number item = found (length (streams_of s).items) (length (loop_at s number)) (place_of s number item)

-- the same, or the first refusal that applies
abbrev pub walk_of : List ℕ → ℕ → ℕ → Answer Found
walk_of s number item = judge refused (pmt_refusals s) (given (found_in s number item))

-- ---- all entries
-- the place of each is stored under the number of its loop, the first of them under `number`
abbrev pub placed : ℕ → List ℕ → List Entry → List ℕ
placed number places [] = places
placed number places (e ∷ es) = placed (number + 1) (set places number e.at) es

-- no place is stored: the program's loop and those of 201 entries are 202
abbrev pub unnoted : List ℕ
unnoted = replicate 202 0

-- what is found, and where the entries stand
pub record Overview : Type 0 where
  pub answer : Answer Found
  pub places : List ℕ

-- "A refusal gives its number alone"
abbrev pub unsurveyed : ℕ → Overview
unsurveyed n = record { answer = refused n; places = unnoted }

-- what `survey` answers
abbrev pub told_survey : Result Surveyed Refusal → Overview
told_survey (Ok r) = record { answer = given (found_by r.walked); places = r.places }
told_survey (Err e) = unsurveyed (number_of e)

-- what is found of the program's loop, and all entries; or the first refusal that applies
abbrev pub survey_of : List ℕ → Overview
survey_of s =
    judge unsurveyed (pmt_refusals s)
    (record { answer = given (found_in s 0 0); places = placed 1 unnoted (streams_of s).items })
