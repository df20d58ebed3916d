-- Document 01, "What the proofs have to say": the third demand, a field for each of its sentences.
use Rattle.std.specs.Prelude.{◌≡◌, Bool, true, false, cond, List, [], ◌∷◌, ◌++◌, reverse, ℕ, ◌+◌, ◌<◌, eqb, length, get_or, Some, None}
use Rattle.ground.specs.House.{area_count, store_bytes}
use Rattle.ground.specs.Answer.{refused, given}
use Rattle.ground.specs.Set.{is_in}
use Rattle.ground.specs.Walk.{Every, keep}
use Rattle.ground.specs.Write.{put, Rest}
use Rattle.gather.specs.Memory.{state_of}
use Rattle.section.specs.Section.{table_of}
use Rattle.state.specs.State.{area_of, is_used, has_pid, area_start, free_area}
use Rattle.state.specs.Choice.{through}
use Rattle.state.specs.declared.Choice.{Choice}
use Rattle.open_call.specs.Open.{Place, has_area}
use Rattle.packet_call.specs.Packet.{Said, pid_of, report}
use Rattle.runs.specs.Run.{Driver, Buffers, Call, open_call, close_call, packet_call, World, Event, open_event, close_event, packet_event, after, event, run_from, log_from, start, play_from, heard_from}
use Rattle.runs.specs.History.{OpenedFilter, AcceptedCall, opened, closed, packet, accepted, is_accepted, is_refused, opens, closes, opening_of, is_on_for, is_closed, more_opens, standing, packets, since, up_to_close, sections_of, handed, remembered, completed}
use Rattle.runs.specs.Answers.{answer_to, outcome_after, written}

-- ---- a run from a fresh state and a store
abbrev pub world_after : Driver → List ℕ → List Call → World
world_after d store calls = run_from d (start store) calls

abbrev pub log_of : Driver → List ℕ → List Call → List Event
log_of d store calls = log_from d (start store) calls

-- what it accepted, last first
abbrev pub history : Driver → List ℕ → List Call → List AcceptedCall
history d store calls = accepted (log_of d store calls)

-- ---- what may be left out
-- the call is no packet of another PID
abbrev pub concerns : ℕ → Call → Bool
concerns pid (open_call q choice) = true
concerns pid (close_call number) = true
concerns pid (packet_call p lent) = eqb (pid_of p) pid

-- what was asked
abbrev pub question_of : Event → Call
question_of (open_event pid choice a) = open_call pid choice
question_of (close_event number a) = close_call number
question_of (packet_event p lent a out) = packet_call p lent

-- the call is a packet of a filter's PID, or its own close
abbrev pub is_own : OpenedFilter → Call → Bool
is_own f (open_call q choice) = false
is_own f (close_call number) = eqb number f.number
is_own f (packet_call p lent) = eqb (pid_of p) f.pid

-- of a run's calls those that were accepted
abbrev pub heeded_from : Driver → World → List Call → List Call
heeded_from d w [] = []
heeded_from d w (c ∷ cs) = cond (is_accepted (event d (run_from d w cs) c)) (c ∷ heeded_from d w cs) (heeded_from d w cs)

-- ---- what the demand speaks of
-- an accepted packet's answer counts the sections that stand in the output
abbrev pub IsCounted : AcceptedCall → Type 0
IsCounted (opened f) = Unit {0}
IsCounted (closed number) = Unit {0}
IsCounted (packet p lent r after) = r.sections ≡ length (sections_of r after)

-- a filter that is open on this PID and lets this table_id through stands at this place
abbrev pub is_open_for : ℕ → ℕ → ℕ → List AcceptedCall → Bool
is_open_for pid table place h = is_on_for pid table (get_or (standing h) place None)

-- the demand of a driver and a run of calls, last first, from a fresh state and a store
pub record DemandThree (d : Driver) (store : List ℕ) (calls : List Call) : Type 0 where
  -- "A PID has an area exactly while more of its opens than closes were accepted"
  pub area : (pid : ℕ) → has_area pid (world_after d store calls).state.areas ≡ more_opens pid (history d store calls)
  -- "no two PIDs share one"
  pub apart : (pid other : ℕ) → has_area pid (world_after d store calls).state.areas ≡ true
      → area_of pid (world_after d store calls).state.areas ≡ area_of other (world_after d store calls).state.areas → pid ≡ other
  -- and no PID has two
  pub single : (pid i j : ℕ) → i < area_count → j < area_count → has_pid pid (get_or (world_after d store calls).state.areas i free_area) ≡ true
      → has_pid pid (get_or (world_after d store calls).state.areas j free_area) ≡ true → i ≡ j
  -- "each area's user count" is the opens of its PID less the closes
  pub users : (i : ℕ) → i < area_count → is_used (get_or (world_after d store calls).state.areas i free_area) ≡ true
      → (get_or (world_after d store calls).state.areas i free_area).users + closes (get_or (world_after d store calls).state.areas i free_area).pid.0 (history d store calls)
      ≡ opens (get_or (world_after d store calls).state.areas i free_area).pid.0 (history d store calls)
  -- what an area holds, in the state and in the store, is what demand 2's rule makes of the accepted packets of its PID since it was taken
  pub holds : (i : ℕ) → i < area_count → is_used (get_or (world_after d store calls).state.areas i free_area) ≡ true
      → state_of (get_or (world_after d store calls).state.areas i free_area).marks (world_after d store calls).store (area_start i)
      ≡ remembered (packets (get_or (world_after d store calls).state.areas i free_area).pid.0 (history d store calls))
  -- "a closed filter number is refused for good"
  pub gone : (number : ℕ) → is_closed number (history d store calls) ≡ true → event d (world_after d store calls) (close_call number) ≡ close_event number (refused 16)
  -- it is never given again
  pub never : (number pid : ℕ) (choice : Choice) (a : Place) → is_closed number (history d store calls) ≡ true
      → event d (world_after d store calls) (open_call pid choice) ≡ open_event pid choice (given a) → a.number ≡ number → ⊥
  -- nor is any number given twice
  pub once : (number pid : ℕ) (choice : Choice) (a : Place) (f : OpenedFilter) → opening_of number (history d store calls) ≡ Some f
      → event d (world_after d store calls) (open_call pid choice) ≡ open_event pid choice (given a) → a.number ≡ number → ⊥
  -- whatever is called next is answered by what was accepted before it, and by nothing else
  pub answers : (c : Call) → event d (world_after d store calls) c ≡ answer_to (history d store calls) c
  -- so refusals 1 and 9 never occurred
  pub refusals : Every (λ e. (is_refused 1 e ≡ false) × (is_refused 9 e ≡ false)) (log_of d store calls)
  -- of each accepted packet: a place is in a section's set exactly if a filter that is open on the packet's PID stands there and lets its table_id through; nobody else is told,
  -- and the list behind the sections is as lent
  pub set : (p : List ℕ) (lent after : Buffers) (r : Said) → event d (world_after d store calls) (packet_call p lent) ≡ packet_event p lent (given r) after → r.wanted ≡ true
      → ((k : ℕ) → k < length (sections_of r after) → (place : ℕ)
      → is_in place (get_or after.sets k 0) ≡ is_open_for (pid_of p) (table_of (get_or (sections_of r after) k [])) place (history d store calls))
      × Rest (length (sections_of r after)) lent.sets after.sets
  -- of each accepted packet: sections, bytes, jump, repeat, given up and begun are those of demand 2's rule after the accepted packets of its PID since the area was taken,
  -- and every byte of the output is the sections joined and then what was lent
  pub whole : (p : List ℕ) (lent after : Buffers) (r : Said) → event d (world_after d store calls) (packet_call p lent) ≡ packet_event p lent (given r) after → r.wanted ≡ true
      → (r ≡ report (outcome_after (history d store calls) p)) × (after.out ≡ written (outcome_after (history d store calls) p) lent.out)
  -- of each accepted packet: of the store only the bytes that its PID's area holds after it are written
  pub writes : (p : List ℕ) (lent : Buffers) → is_accepted (event d (world_after d store calls) (packet_call p lent)) ≡ true
      → (after d (world_after d store calls) (packet_call p lent)).store
      ≡ put (world_after d store calls).store (area_start (area_of (pid_of p) (world_after d store calls).state.areas)) (outcome_after (history d store calls) p).next.held
  -- the number of sections in an answer is that of the sections in the output
  pub counts : Every IsCounted (history d store calls)
  -- "What an open filter is handed is exactly the sections" "whose table_id the filter lets through" (document 02, ticket 2) "that demand 2's rule completes, since its open, from the accepted packets of its PID since the area was taken";
  -- what a filter is handed ends with its close
  pub hands : (f : OpenedFilter) → opening_of f.number (history d store calls) ≡ Some f
      → handed f (history d store calls)
      ≡ through f.choice (completed (since f (up_to_close f.number (history d store calls))) (packets f.pid (up_to_close f.number (history d store calls))))
  -- "No packet of another PID .. changes it": leaving out every packet of other PIDs, wherever it stands, leaves every other answer as it was
  pub others : (pid : ℕ) → log_of d store (keep (concerns pid) calls) ≡ keep (λ e. concerns pid (question_of e)) (log_of d store calls)
  -- ".. and no later open or close by others changes it": of the later calls only the packets of a filter's PID and its own close count
  pub alone : (f : OpenedFilter) (later before : List Call) → calls ≡ later ++ before → opening_of f.number (history d store before) ≡ Some f
      → handed f (history d store (keep (is_own f) later ++ keep (concerns f.pid) before)) ≡ handed f (history d store calls)
  -- a call that is refused, or a packet that is not wanted, leaves the state and every byte of the store as they were
  pub still : (c : Call) → is_accepted (event d (world_after d store calls) c) ≡ false → after d (world_after d store calls) c ≡ world_after d store calls
  -- leaving out every refused and every unwanted call, wherever it stands, changes no state, no byte of the store, and no other answer
  pub idle : (world_after d store (heeded_from d (start store) calls) ≡ world_after d store calls)
      × (log_of d store (heeded_from d (start store) calls) ≡ keep is_accepted (log_of d store calls))

-- the demand of every run, from every store of 32,768 bytes
abbrev pub Statement : Driver → Type 0
Statement d = (store : List ℕ) (calls : List Call) → length store ≡ store_bytes → DemandThree d store calls

-- calls as they come lead to the same world and the same log, which is only turned round
abbrev pub InOrder : Driver → Type 0
InOrder d =
    (store : List ℕ) (calls : List Call)
    → (play_from d (start store) calls ≡ world_after d store (reverse calls)) × (heard_from d (start store) calls ≡ reverse (log_of d store (reverse calls)))
