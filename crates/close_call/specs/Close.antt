-- Document 01, "Filters and areas": close.
use Rattle.std.specs.Prelude.{cond, not, List, [], ◌∷◌, ℕ, ◌-◌, leb, eqb, length, get_or, set}
use Rattle.std.specs.declared.result.Result.{Result}
use Rattle.ground.specs.declared.Refusal.{Refusal}
use Rattle.ground.specs.Told.{told}
use Rattle.ground.specs.Answer.{Answer, refused, given}
use Rattle.ground.specs.Refusal.{Row, judge, ◌when◌}
use Rattle.state.specs.State.{place_of, free_area, free_filter}
use Rattle.state.specs.declared.Area.{Area}
use Rattle.state.specs.declared.State.{State}
use Rattle.sound.specs.Sound.{sound}
use Rattle.state.specs.declared.After.{After}

-- what a close says in document 01's terms
abbrev pub told_closing : Result (Unit {0}) Refusal → Answer (Unit {0})
told_closing r = told (λ done. done) r

-- the answer, and the state after it
pub record AfterClose : Type 0 where
  pub answer : Answer (Unit {0})
  pub state : State

abbrev pub told_closed : After (Result (Unit {0}) Refusal) → AfterClose
told_closed o = record { answer = told_closing o.answer; state = o.state }

-- "Close: 1, 16"
abbrev pub close_refusals : State → ℕ → List Row
close_refusals s number = (1 when not (sound s)) ∷ (16 when leb (length s.filters) (place_of number s.filters)) ∷ []

-- "the last close on a PID frees the area and forgets its held bytes and counter"
abbrev pub without_user : Area → Area
without_user a = cond (eqb a.users 1) free_area (record { pid = a.pid; users = a.users - 1; marks = a.marks })

-- the area of the filter at a place
abbrev pub area_at : State → ℕ → ℕ
area_at s place = (get_or s.filters place free_filter).area

-- "Close frees the place"
abbrev pub without_filter : State → ℕ → State
without_filter s place =
    record {
      areas = set s.areas (area_at s place) (without_user (get_or s.areas (area_at s place) free_area));
      filters = set s.filters place free_filter;
      choices = set s.choices place 0;
      next = s.next;
    }

unfoldable pub close_of : State → ℕ → AfterClose
close_of s number =
    judge (λ n. record { answer = refused n; state = s }) (close_refusals s number)
    (record { answer = given tt; state = without_filter s (place_of number s.filters) })
