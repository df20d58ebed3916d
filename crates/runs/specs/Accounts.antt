-- Request 10 of document 02, "How many sections can one packet start?": what a log says of it, over any run.
use Rattle.std.specs.Prelude.{◌≡◌, true, List, ℕ, length}
use Rattle.ground.specs.House.{store_bytes}
use Rattle.ground.specs.Walk.{total}
use Rattle.gather.specs.Sum.{AddsUp}
use Rattle.state.specs.State.{area_of}
use Rattle.open_call.specs.Open.{has_area}
use Rattle.packet_call.specs.Packet.{Said, held_in}
use Rattle.runs.specs.Run.{Driver, Call}
use Rattle.runs.specs.History.{reports}
use Rattle.runs.specs.Demand.{world_after, history}

-- the totals of some answers add up: nothing was held before them, and so many bytes are held after them
abbrev pub TotalsAddUp : List Said → ℕ → Type 0
TotalsAddUp told held = AddsUp (total (λ r. r.begun) told) 0 (total (λ r. r.sections) told) (total (λ r. r.given_up) told) held

-- of every PID that has an area: the answers to its packets since the area was taken add up with the bytes that the area holds
abbrev pub Accounts : Driver → Type 0
Accounts d =
    (store : List ℕ) (calls : List Call) → length store ≡ store_bytes → (pid : ℕ) → has_area pid (world_after d store calls).state.areas ≡ true
    → let state = (world_after d store calls).state in
    TotalsAddUp (reports pid (history d store calls)) (held_in (area_of pid state.areas) state)
