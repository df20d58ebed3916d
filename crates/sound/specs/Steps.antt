-- What one pass over the filter places and one over the areas find out, for the private functions that test soundness; no public promise cites it.
use Rattle.std.specs.Prelude.{◌≡◌, Bool, true, cond, not, ◌&&◌, List, [], ◌∷◌, ℕ, ◌+◌, ◌%◌, ◌<◌, ltb, eqb, length, get_or, set}
use Rattle.ground.specs.Walk.{all, count}
use Rattle.state.specs.State.{is_open, is_used, stands_on}
use Rattle.state.specs.declared.Area.{Area}
use Rattle.state.specs.declared.Filter.{Filter}
use Rattle.sound.specs.Sound.{is_zero_area}

-- a number is none of these
abbrev pub is_new : ℕ → List ℕ → Bool
is_new own others = all (λ n. not (eqb n own)) others

-- what the pass over the areas keeps of one: a used area's PID, and of a free one what no PID is
abbrev pub pid_kept : Area → ℕ
pid_kept a = cond (is_used a) a.pid.0 0xFFFF

-- what the pass over the places keeps of one: its number, which is 0 where the place is free
abbrev pub number_kept : Filter → ℕ
number_kept f = f.number

-- a filter of which the number alone counts
abbrev pub known : ℕ → Filter
known number = record { number = number; area = 0 }

-- the highest number of a choice that a filter with this number may have
abbrev pub highest_choice : ℕ → ℕ
highest_choice number = cond (eqb number 0) 0 255

-- a place's record is all zero
abbrev pub is_zero_place : Filter → Bool
is_zero_place f = eqb f.number 0 && eqb f.area 0

-- a free place is all zero, an open one has a number below the next and an area of the eight
abbrev pub fits_place : ℕ → Filter → Bool
fits_place next f = cond (is_open f) (ltb f.number next && ltb f.area 8) (eqb f.area 0)

-- one user more at an open filter's area
abbrev pub counted_in : List ℕ → Filter → List ℕ
counted_in counts f = cond (is_open f) (set counts f.area (get_or counts f.area 0 + 1)) counts

-- numbers fall into 256 classes, by their last eight bits; two that are equal fall into one
abbrev pub class_of : Filter → ℕ
class_of f = f.number % 256

abbrev pub met_in : List ℕ → Filter → List ℕ
met_in met f = cond (is_open f) (set met (class_of f) 1) met

-- another open filter of the class was met before
abbrev pub is_met : List ℕ → Filter → Bool
is_met met f = is_open f && not (eqb (get_or met (class_of f) 0) 0)

-- the filters that stand on each area are counted
abbrev pub Counts : List Filter → List ℕ → Type 0
Counts filters counts = (length counts ≡ 8) × ((k : ℕ) → k < 8 → get_or counts k 0 ≡ count (stands_on k) filters)

-- an area is free, and its record all zero
abbrev pub is_free_area : Area → Bool
is_free_area a = eqb a.users 0 && is_zero_area a

-- no filter was counted
abbrev pub is_none : ℕ → Bool
is_none n = eqb n 0

-- each area has as many users as counted
abbrev pub agree : List ℕ → List Area → Bool
agree counts [] = true
agree [] (a ∷ areas) = true
agree (n ∷ counts) (a ∷ areas) = eqb a.users n && agree counts areas
