-- Request 2 of document 02, "One table only": what a packet call writes in the list, and that a choice is nobody else's business.
use Rattle.std.specs.Prelude.{◌≡◌, Bool, true, not, ◌||◌, List, [], map, ℕ, ◌<◌, eqb, get_or}
use Rattle.ground.specs.Set.{set_of, is_in}
use Rattle.ground.specs.Write.{Rest}
use Rattle.section.specs.Section.{table_of}
use Rattle.state.specs.State.{stands_on}
use Rattle.state.specs.Choice.{Placed, free_place, is_for}
use Rattle.state.specs.declared.State.{State}
use Rattle.packet_call.specs.Packet.{Said, AfterPacket}

-- what an accepted packet writes in the list, of the places of a state and of the sections that the rule completes in area i
pub record Listed (i : ℕ) (places : List Placed) (sections : List (List ℕ)) (r : Said) (lent after : List ℕ) : Type 0 where
  -- a place is in a section's set exactly if the filter there is open, stands on the area and lets the section's table_id through
  pub exactly : (k : ℕ) → k < r.sections → (place : ℕ) → is_in place (get_or after k 0) ≡ is_for i (table_of (get_or sections k [])) (get_or places place free_place)
  -- "later places stay", and the list has room for all: none is lost
  pub rest : Rest r.sections lent after

-- the places of all filters on area i: the joined set of document 01
abbrev pub places_on : ℕ → List Placed → ℕ
places_on i places = set_of (λ p. stands_on i p.filter) places

-- who stands on area i chose all
abbrev pub is_all_on : ℕ → Placed → Bool
is_all_on i p = not (stands_on i p.filter) || eqb p.choice 0

-- the same state with every choice all
abbrev pub with_all : State → State
with_all s = record { areas = s.areas; filters = s.filters; choices = map (λ (c : ℕ). 0) s.choices; next = s.next }

-- two outcomes of a packet call are alike but for choices: the second is of the state in which every filter chose all
pub record Alike (a b : AfterPacket) : Type 0 where
  pub answer : a.answer ≡ b.answer
  pub store : a.store ≡ b.store
  pub out : a.out ≡ b.out
  pub state : with_all a.state ≡ b.state
  -- each set is within the other's
  pub within : (k place : ℕ) → is_in place (get_or a.sets k 0) ≡ true → is_in place (get_or b.sets k 0) ≡ true
