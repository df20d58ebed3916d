-- Document 01, "Filters and areas": "Sound means".
use Rattle.std.specs.Prelude.{Bool, true, cond, ◌&&◌, List, [], ◌∷◌, ℕ, suc, ltb, leb, eqb, get_or}
use Rattle.ground.specs.House.{last_filter_pid}
use Rattle.ground.specs.Walk.{all, apart, count}
use Rattle.gather.specs.Memory.{held_of, sound_marks}
use Rattle.state.specs.State.{is_used, is_open, stands_on, free_area}
use Rattle.state.specs.Choice.{sound_choice, choice_of, Placed, places_of}
use Rattle.state.specs.declared.Area.{Area}
use Rattle.state.specs.declared.Filter.{Filter}
use Rattle.state.specs.declared.State.{State}

-- "records of free areas .. are all zero"
abbrev pub is_zero_area : Area → Bool
is_zero_area a =
    eqb a.pid.0 0 && eqb (held_of a.marks) 0 && eqb a.marks.seen 0 && eqb a.marks.counter 0 && eqb a.marks.repeated 0

-- "used areas have .. PIDs .. each at most 0x1FFE"; "held bytes are 0 to 4,095; an area that has seen no counter holds 0 bytes and counter 0" and has seen no repeat, "any other used area a counter of 0 to 15"; that a counter was seen, and that its repeat was, is marked by 0 or 1
abbrev pub sound_area : Area → Bool
sound_area a = cond (is_used a) (leb a.pid.0 last_filter_pid && sound_marks a.marks) (is_zero_area a)

-- two used areas with one PID
abbrev pub same_pid : Area → Area → Bool
same_pid a b = is_used a && is_used b && eqb a.pid.0 b.pid.0

-- "open numbers .. are at least 1 and below the next number to give"; "every open filter stands on a used area"; "records of free .. places are all zero"
abbrev pub sound_filter : ℕ → List Area → Filter → Bool
sound_filter next areas f =
    cond (is_open f) (ltb f.number next && is_used (get_or areas f.area free_area)) (eqb f.area 0)

-- two open filters with one number
abbrev pub same_number : Filter → Filter → Bool
same_number f g = is_open f && eqb f.number g.number

-- "The filter record gains that choice and soundness covers it" (document 02, ticket 2): an open filter's choice is "one table_id, 0 to 254, or all", and at a free place, whose record is all zero, it is all
abbrev pub sound_place : Placed → Bool
sound_place p = cond (is_open p.filter) (sound_choice (choice_of p.choice)) (eqb p.choice 0)

-- "each area's user count is the number of open filters on it", from area i on
abbrev pub counted : List Filter → ℕ → List Area → Bool
counted filters i [] = true
counted filters i (a ∷ areas) = eqb a.users (count (stands_on i) filters) && counted filters (suc i) areas

-- "the next number to give, which is 1 to 65,536"
abbrev pub sound_next : ℕ → Bool
sound_next next = leb 1 next && leb next 65536

-- "Sound means"
unfoldable pub sound : State → Bool
sound s =
    sound_next s.next
    && all sound_area s.areas
    && apart same_pid s.areas
    && all (sound_filter s.next s.areas) s.filters
    && apart same_number s.filters
    && all sound_place (places_of s)
    && counted s.filters 0 s.areas
