-- Document 01, "Filters and areas" and "Numbers of the house": what the state holds.
use Rattle.std.specs.Prelude.{Bool, not, ◌&&◌, List, ℕ, ◌*◌, eqb, replicate}
use Rattle.ground.specs.House.{area_count, area_bytes, place_count}
use Rattle.ground.specs.Walk.{find}
use Rattle.gather.specs.Memory.{no_marks}
use Rattle.state.specs.declared.Area.{Area}
use Rattle.state.specs.declared.Filter.{Filter}
use Rattle.state.specs.declared.State.{State}

-- "Areas: 8, each 4,096 bytes; the store is exactly 32,768 bytes, area i starting at 4,096·i"
abbrev pub area_start : ℕ → ℕ
area_start i = area_bytes * i

-- an area is used where it has users
abbrev pub is_used : Area → Bool
is_used a = not (eqb a.users 0)

-- a place is open where its filter has a number
abbrev pub is_open : Filter → Bool
is_open f = not (eqb f.number 0)

abbrev pub is_free : Filter → Bool
is_free f = eqb f.number 0

-- a filter is open and stands on area i
abbrev pub stands_on : ℕ → Filter → Bool
stands_on i f = is_open f && eqb f.area i

-- "records of free areas and places are all zero"
abbrev pub free_area : Area
free_area = record { pid = record { 0 = 0 }; users = 0; marks = no_marks }

abbrev pub free_filter : Filter
free_filter = record { number = 0; area = 0 }

-- "A fresh state has only free ones, and next number 1"
abbrev pub fresh : State
fresh = record { areas = replicate area_count free_area; filters = replicate place_count free_filter; choices = replicate place_count 0; next = 1 }

-- an area has this PID
abbrev pub has_pid : ℕ → Area → Bool
has_pid pid a = is_used a && eqb a.pid.0 pid

-- the area of a PID, or the number of areas where none has it
abbrev pub area_of : ℕ → List Area → ℕ
area_of pid areas = find (has_pid pid) areas

-- an area is free where it has no users
abbrev pub has_no_users : Area → Bool
has_no_users a = eqb a.users 0

-- "the lowest free area", or the number of areas where all are taken
abbrev pub free_area_of : List Area → ℕ
free_area_of areas = find has_no_users areas

-- "the lowest free place", or the number of places where all are open
abbrev pub free_place_of : List Filter → ℕ
free_place_of filters = find is_free filters

-- a filter is open and has this number
abbrev pub has_number : ℕ → Filter → Bool
has_number number f = is_open f && eqb f.number number

-- the place of an open filter by its number, or the number of places where it is not open
abbrev pub place_of : ℕ → List Filter → ℕ
place_of number filters = find (has_number number) filters
