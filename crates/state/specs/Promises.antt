-- What each public call promises.
use Rattle.std.specs.Prelude.{◌≡◌, List, ℕ, Option, position}
use Rattle.state.specs.State.{fresh, has_pid, has_no_users, is_free, has_number}
use Rattle.state.specs.Choice.{placed, places_for}
use Rattle.state.specs.declared.Area.{Area}
use Rattle.state.specs.declared.Filter.{Filter}
use Rattle.state.specs.declared.State.{State}

-- `fresh`
abbrev pub MakesFresh : State → Type 0
MakesFresh r = r ≡ fresh

-- `area_of`
abbrev pub FindsArea : List Area → ℕ → Option ℕ → Type 0
FindsArea areas pid r = r ≡ position (has_pid pid) areas

-- `free_area`
abbrev pub FindsFreeArea : List Area → Option ℕ → Type 0
FindsFreeArea areas r = r ≡ position has_no_users areas

-- `free_place`
abbrev pub FindsFreePlace : List Filter → Option ℕ → Type 0
FindsFreePlace filters r = r ≡ position is_free filters

-- `place_of`
abbrev pub FindsPlace : List Filter → ℕ → Option ℕ → Type 0
FindsPlace filters number r = r ≡ position (has_number number) filters

-- `places_for`
abbrev pub TellsPlaces : List Filter → List ℕ → ℕ → ℕ → ℕ → Type 0
TellsPlaces filters choices area table r = r ≡ places_for area table (placed filters choices)
