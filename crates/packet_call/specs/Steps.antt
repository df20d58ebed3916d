-- What the private functions of the crate promise each other; no public promise cites it.
use Rattle.std.specs.Prelude.{◌≡◌, true, List, [], ◌∷◌, ℕ, zero, suc, ◌≤◌, length, drop}
use Rattle.ground.specs.House.{store_bytes, least_output, least_list}
use Rattle.section.specs.Section.{table_of, section_size}
use Rattle.state.specs.Choice.{Placed, places_for}
use Rattle.state.specs.declared.State.{State}
use Rattle.sound.specs.Sound.{sound}

-- what the functions behind the packet call may rely on once its first tests are passed
pub record Ready (s : State) (store out sets : List ℕ) : Type 0 where
  pub fine : sound s ≡ true
  pub whole : length store ≡ store_bytes
  pub room : least_output ≤ length out
  pub listed : least_list ≤ length sets

-- the sets of so many sections that stand joined at the start of some bytes
abbrev pub sets_in : ℕ → List Placed → ℕ → List ℕ → List ℕ
sets_in i places zero out = []
sets_in i places (suc n) out = places_for i (table_of out) places ∷ sets_in i places n (drop (section_size out) out)
