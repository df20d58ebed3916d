-- Document 02, ticket 2, "One table only": "Let a filter name one table_id, 0 to 254, or all. The filter record gains that choice".
use Rattle.std.specs.Prelude.{Bool, true, ◌&&◌, List, [], ◌∷◌, ℕ, zero, suc, eqb, leb, get_or, drop}
use Rattle.ground.specs.House.{last_table}
use Rattle.ground.specs.Set.{set_of}
use Rattle.ground.specs.Walk.{keep}
use Rattle.section.specs.Section.{table_of}
use Rattle.state.specs.State.{stands_on, free_filter}
use Rattle.state.specs.declared.Choice.{Choice}
use Rattle.state.specs.declared.Choice.TheVariants.{All, One}
use Rattle.state.specs.declared.Filter.{Filter}
use Rattle.state.specs.declared.State.{State}

-- "one table_id, 0 to 254, or all"
abbrev pub sound_choice : Choice → Bool
sound_choice All = true
sound_choice (One table) = leb table last_table

-- a choice lets a section of this table_id through
abbrev pub lets : Choice → ℕ → Bool
lets All table = true
lets (One own) table = eqb own table

-- "the sections whose table_id the filter lets through"
abbrev pub through : Choice → List (List ℕ) → List (List ℕ)
through choice sections = keep (λ s. lets choice (table_of s)) sections

-- ---- in the state a choice is a number: 0 is all, and 1 + table_id is one
abbrev pub code_of : Choice → ℕ
code_of All = 0
code_of (One table) = suc table

abbrev pub choice_of : ℕ → Choice
choice_of zero = All
choice_of (suc table) = One table

-- ---- a filter's whole record
-- its number and its area, and the number of its choice
pub record Placed : Type 0 where
  pub filter : Filter
  pub choice : ℕ

-- the records of some places: the state keeps the filters and their choices in two lists; a choice that is missing is all
abbrev pub placed : List Filter → List ℕ → List Placed
placed [] choices = []
placed (f ∷ filters) choices = record { filter = f; choice = get_or choices 0 0 } ∷ placed filters (drop 1 choices)

-- the records of a state's filter places
abbrev pub places_of : State → List Placed
places_of s = placed s.filters s.choices

-- a free place's record
abbrev pub free_place : Placed
free_place = record { filter = free_filter; choice = 0 }

-- ---- whom a section is for
-- a filter is open, stands on area i and lets this table_id through
abbrev pub is_for : ℕ → ℕ → Placed → Bool
is_for i table p = stands_on i p.filter && lets (choice_of p.choice) table

-- "one 32-bit set of filter places for each section"
abbrev pub places_for : ℕ → ℕ → List Placed → ℕ
places_for i table places = set_of (is_for i table) places
