-- What is claimed of the calls together, and proved.
use Rattle.std.specs.Prelude.{◌≡◌, true, List, [], ◌⊎◌, ℕ, ◌+◌, ◌≤◌, length, get_or}
use Rattle.ground.specs.House.{area_bytes, least_output}
use Rattle.ground.specs.Answer.{given}
use Rattle.ground.specs.Walk.{all}
use Rattle.packet.specs.Payload.{payload_of}
use Rattle.gather.specs.Sum.{AddsUp}
use Rattle.gather.specs.Memory.{stretch}
use Rattle.state.specs.State.{area_start, area_of, free_area, fresh}
use Rattle.state.specs.Choice.{Placed, places_of, places_for}
use Rattle.state.specs.declared.Choice.{Choice}
use Rattle.state.specs.declared.State.{State}
use Rattle.sound.specs.Sound.{sound}
use Rattle.open_call.specs.Open.{open_of}
use Rattle.close_call.specs.Close.{close_of}
use Rattle.packet_call.specs.Packet.{Said, AfterPacket, pid_of, held_in, outcome, packet_of}
use Rattle.driver.specs.Choices.{Listed, places_on, is_all_on, with_all, Alike}

-- nothing but area i of the state and of the store has changed
pub record OnlyArea (i : ℕ) (s : State) (store : List ℕ) (o : AfterPacket) : Type 0 where
  pub filters : o.state.filters ≡ s.filters
  pub choices : o.state.choices ≡ s.choices
  pub next : o.state.next ≡ s.next
  pub areas : (j : ℕ) → (j ≡ i → ⊥) → get_or o.state.areas j free_area ≡ get_or s.areas j free_area
  pub size : length o.store ≡ length store
  pub elsewhere : (from n : ℕ) → (from + n ≤ area_start i) ⊎ (area_start i + area_bytes ≤ from) → stretch n o.store from ≡ stretch n store from

-- what is said of a packet that is not refused stays within these limits
pub record Limits (r : Said) : Type 0 where
  -- "their number (at most 61)"
  pub sections : r.sections ≤ 61
  -- the output buffer of 4,278 bytes serves
  pub bytes : r.bytes ≤ least_output
  -- "how many sections were given up (0 to 2)"
  pub given_up : r.given_up ≤ 2
  -- "how many sections a packet call began": "it is at most 61"
  pub begun : r.begun ≤ 61

-- request 10 of document 02, "How many sections can one packet start?": what is said of a packet that is not refused adds up with how many bytes its PID's area held before the call and holds after it
pub record Accounted (p : List ℕ) (r : Said) (before after : ℕ) : Type 0 where
  pub adds_up : AddsUp r.begun before r.sections r.given_up after
  -- "This holds for repeats too, where all but the held terms are 0", and for packets without payload
  pub none : (r.repeat ≡ true) ⊎ (payload_of p ≡ []) → (r.begun ≡ 0) × (r.sections ≡ 0) × (r.given_up ≡ 0) × (after ≡ before)

pub record Claims : Type 0 where
  pub limits : (s : State) (p store out sets : List ℕ) (r : Said) → (packet_of s p store out sets).answer ≡ given r → Limits r
  -- sections begun are accounted for, whatever the state (it has 8 areas), the store, the output and the list
  pub accounted : (s : State) (p store out sets : List ℕ) → length s.areas ≡ 8 → (r : Said) → (packet_of s p store out sets).answer ≡ given r
      → let i = area_of (pid_of p) s.areas in
      Accounted p r (held_in i s) (held_in i (packet_of s p store out sets).state)
  -- of each accepted packet: the list has exactly one set for each section, and behind them what was lent
  pub listed : (s : State) (p store out sets : List ℕ) (r : Said) → (packet_of s p store out sets).answer ≡ given r → r.wanted ≡ true
      → let i = area_of (pid_of p) s.areas in
      Listed i (places_of s) (outcome s i p store).sections r sets (packet_of s p store out sets).sets
  -- where every filter on an area chose all, each section's set is the joined set of document 01
  pub joined : (i : ℕ) (places : List Placed) → all (is_all_on i) places ≡ true → (table : ℕ) → places_for i table places ≡ places_on i places
  -- a choice is nobody else's business: with every choice all a packet call of a sound state has the same answer, store and output and leaves the same state but for choices, and no set loses a place
  pub nobody_else : (s : State) (p store out sets : List ℕ) → sound s ≡ true → Alike (packet_of s p store out sets) (packet_of (with_all s) p store out sets)
  -- a fresh state is sound, and a call leaves a sound state sound
  pub sound_fresh : sound fresh ≡ true
  pub sound_open : (s : State) (pid : ℕ) (choice : Choice) → sound s ≡ true → sound (open_of s pid choice).state ≡ true
  pub sound_close : (s : State) (number : ℕ) → sound s ≡ true → sound (close_of s number).state ≡ true
  pub sound_packet : (s : State) (p store out sets : List ℕ) → length s.areas ≡ 8 → sound s ≡ true → sound (packet_of s p store out sets).state ≡ true
  -- a packet call changes at most its own PID's area, in the state and in the store
  pub only_area : (s : State) (p store out sets : List ℕ) → length s.areas ≡ 8 → OnlyArea (area_of (pid_of p) s.areas) s store (packet_of s p store out sets)
