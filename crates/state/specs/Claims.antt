-- What is claimed of the promises, and proved.
use Rattle.std.specs.Prelude.{◌≡◌, cond, List, ℕ, Option, Some, None, ltb, length}
use Rattle.ground.specs.Outcome.{Determined}
use Rattle.state.specs.Promises.{MakesFresh, FindsArea, FindsFreeArea, FindsFreePlace, FindsPlace, TellsPlaces}
use Rattle.state.specs.State.{area_of, free_area_of, free_place_of, place_of}
use Rattle.state.specs.Choice.{code_of, choice_of}
use Rattle.state.specs.declared.Area.{Area}
use Rattle.state.specs.declared.Choice.{Choice}
use Rattle.state.specs.declared.Filter.{Filter}

-- an index of a list of so many, or none where it is their number
abbrev pub index_in : ℕ → ℕ → Option ℕ
index_in all i = cond (ltb i all) (Some i) None

pub record Claims : Type 0 where
  -- any two outcomes that a promise admits are equal
  pub makes_fresh : Determined MakesFresh
  pub finds_area : (areas : List Area) (pid : ℕ) → Determined (FindsArea areas pid)
  pub finds_free_area : (areas : List Area) → Determined (FindsFreeArea areas)
  pub finds_free_place : (filters : List Filter) → Determined (FindsFreePlace filters)
  pub finds_place : (filters : List Filter) (number : ℕ) → Determined (FindsPlace filters number)
  pub tells_places : (filters : List Filter) (choices : List ℕ) (area table : ℕ) → Determined (TellsPlaces filters choices area table)
  -- what is found is what the definitions say, and none where they say the number of all
  pub area_found : (areas : List Area) (pid : ℕ) → FindsArea areas pid (index_in (length areas) (area_of pid areas))
  pub free_area_found : (areas : List Area) → FindsFreeArea areas (index_in (length areas) (free_area_of areas))
  pub free_place_found : (filters : List Filter) → FindsFreePlace filters (index_in (length filters) (free_place_of filters))
  pub place_found : (filters : List Filter) (number : ℕ) → FindsPlace filters number (index_in (length filters) (place_of number filters))
  -- a choice that is put down as a number is read back, and so is every number: they say the same
  pub choice_back : (choice : Choice) → choice_of (code_of choice) ≡ choice
  pub code_back : (code : ℕ) → code_of (choice_of code) ≡ code
