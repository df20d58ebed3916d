-- Document 01, "Filters and areas": open.
use Rattle.std.specs.Prelude.{Bool, cond, not, List, [], ◌∷◌, ℕ, ◌+◌, ltb, leb, length, get_or, set}
use Rattle.std.specs.declared.result.Result.{Result}
use Rattle.ground.specs.declared.Refusal.{Refusal}
use Rattle.ground.specs.Told.{told}
use Rattle.ground.specs.House.{last_number, last_filter_pid}
use Rattle.ground.specs.Answer.{Answer, refused, given}
use Rattle.ground.specs.Refusal.{Row, judge, ◌when◌}
use Rattle.state.specs.State.{area_of, free_area_of, free_place_of, free_area}
use Rattle.state.specs.Choice.{sound_choice, code_of}
use Rattle.state.specs.declared.Area.{Area}
use Rattle.state.specs.declared.Choice.{Choice}
use Rattle.state.specs.declared.State.{State}
use Rattle.sound.specs.Sound.{sound}
use Rattle.state.specs.declared.After.{After}
use Rattle.open_call.specs.declared.Opening.{Opening}

-- "It answers number and place"
pub record Place : Type 0 where
  pub number : ℕ
  pub place : ℕ

-- a filter that was opened, by its numbers
abbrev pub told_place : Opening → Place
told_place o = record { number = o.number; place = o.place }

-- what an open says in document 01's terms
abbrev pub told_opening : Result Opening Refusal → Answer Place
told_opening r = told told_place r

-- the answer, and the state after it
pub record AfterOpen : Type 0 where
  pub answer : Answer Place
  pub state : State

abbrev pub told_opened : After (Result Opening Refusal) → AfterOpen
told_opened o = record { answer = told_opening o.answer; state = o.state }

-- the PID has an area
abbrev pub has_area : ℕ → List Area → Bool
has_area pid areas = ltb (area_of pid areas) (length areas)

-- the PID's area, "and the lowest free area if none has the PID"
abbrev pub area_for : ℕ → List Area → ℕ
area_for pid areas = cond (has_area pid areas) (area_of pid areas) (free_area_of areas)

-- "Open: 1, 12, 13, 14, 15"; with ticket 2 of document 02 "17, table_id 255, in open after 12"
abbrev pub open_refusals : State → ℕ → Choice → List Row
open_refusals s pid choice =
    (1 when not (sound s))
    ∷ (12 when ltb last_filter_pid pid)
    ∷ (17 when not (sound_choice choice))
    ∷ (13 when ltb last_number s.next)
    ∷ (14 when leb (length s.filters) (free_place_of s.filters))
    ∷ (15 when leb (length s.areas) (area_for pid s.areas))
    ∷ []

-- the area with one user more; a free one takes the PID
abbrev pub with_user : ℕ → Area → Area
with_user pid a = record { pid = record { 0 = pid }; users = a.users + 1; marks = a.marks }

-- the state with a filter at this place on this area, its choice by its number
abbrev pub with_filter : State → ℕ → ℕ → ℕ → ℕ → State
with_filter s pid code area place =
    record {
      areas = set s.areas area (with_user pid (get_or s.areas area free_area));
      filters = set s.filters place (record { number = s.next; area = area });
      choices = set s.choices place code;
      next = s.next + 1;
    }

-- the state with one filter more
abbrev pub opened : State → ℕ → Choice → State
opened s pid choice = with_filter s pid (code_of choice) (area_for pid s.areas) (free_place_of s.filters)

-- "Open takes the lowest free place, and the lowest free area if none has the PID"
unfoldable pub open_of : State → ℕ → Choice → AfterOpen
open_of s pid choice =
    judge (λ n. record { answer = refused n; state = s }) (open_refusals s pid choice)
    (record { answer = given (record { number = s.next; place = free_place_of s.filters }); state = opened s pid choice })
