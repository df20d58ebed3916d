-- What is claimed of the calls, and proved.
use Rattle.std.specs.Prelude.{◌≡◌, Bool, true, cond, List, [], ◌++◌, ◌↔◌, ℕ, leb, length}
use Rattle.ground.specs.Answer.{refused, given}
use Rattle.ground.specs.Outcome.{Determined}
use Rattle.ground.specs.Refusal.{Row, Silent, ExactCall}
use Rattle.state.specs.State.{area_of}
use Rattle.state.specs.declared.State.{State}
use Rattle.packet_call.specs.Packet as handling
use Rattle.packet_call.specs.Packet.{AfterPacket, pid_of, first_refusals, last_refusals, as_given, packet_of}
use Rattle.gather.specs.declared.Gathered.{Gathered}
use Rattle.packet_call.specs.Promises.{HandlesPacket, GivesReport}

-- the packet's PID has no area
abbrev pub has_no_area : State → List ℕ → Bool
has_no_area s p = leb (length s.areas) (area_of (pid_of p) s.areas)

-- the two tables as one: past the first the second is looked at only where the PID has an area
abbrev pub handling_refusals : State → List ℕ → List ℕ → List ℕ → List ℕ → List Row
handling_refusals s p store out sets = first_refusals s p store out sets ++ cond (has_no_area s p) [] (last_refusals s (area_of (pid_of p) s.areas) p store)

pub record Claims : Type 0 where
  -- any two outcomes that a promise admits are equal
  pub handles_packet : (s : State) (p store out sets : List ℕ) → Determined (HandlesPacket s p store out sets)
  pub gives_report : (g : Gathered) → Determined (GivesReport g)
  -- the table is exact, and a refused call "returns the state as given and writes nothing"
  pub exact_packet : (s : State) (p store out sets : List ℕ)
      → ExactCall (handling_refusals s p store out sets) (λ (o : AfterPacket). o.answer) (λ n. as_given s store out sets (refused n)) (packet_of s p store out sets)
  -- "then, if the PID has no area, the answer "not wanted" (counts, marks .. 0, nothing written)": exactly then
  pub unwanted : (s : State) (p store out sets : List ℕ)
      → (packet_of s p store out sets ≡ as_given s store out sets (given handling.unwanted)) ↔ (Silent (first_refusals s p store out sets) × (has_no_area s p ≡ true))
