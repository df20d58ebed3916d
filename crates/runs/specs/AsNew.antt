-- Request 14 of document 02, "After a jump, as good as new": how long a loss can be felt, over any run.
use Rattle.std.specs.Prelude.{◌≡◌, Bool, true, false, cond, not, List, [], ◌∷◌, ◌++◌, map, ℕ, suc, ◌+◌, ◌≤◌, ◌<◌, eqb, length, get_or, drop, Some}
use Rattle.ground.specs.House.{area_count, store_bytes}
use Rattle.ground.specs.Answer.{given}
use Rattle.ground.specs.Walk.{keep}
use Rattle.packet.specs.Packet.{contents}
use Rattle.packet.specs.Payload.{payload_of}
use Rattle.gather.specs.Rule.{Packet, unfinished_of, rule}
use Rattle.gather.specs.Memory.{no_marks, stretch}
use Rattle.state.specs.State.{area_start, is_used, free_area, has_pid, area_of}
use Rattle.state.specs.Choice.{through}
use Rattle.state.specs.declared.Area.{Area}
use Rattle.state.specs.declared.Choice.{Choice}
use Rattle.state.specs.declared.State.{State}
use Rattle.open_call.specs.Open.{has_area}
use Rattle.packet_call.specs.Packet.{Said, pid_of, held_in}
use Rattle.runs.specs.Run.{Driver, Buffers, Call, open_call, close_call, packet_call, World, packet_event, after, event, run_from, log_from, play_from, heard_from, start}
use Rattle.runs.specs.History.{OpenedFilter, AcceptedCall, opening_of, packets, since, up_to_close, handed, remembered, completed}
use Rattle.runs.specs.Demand.{world_after, history}

-- ---- an area that has seen nothing
-- an area of this PID with nothing held and no counter seen, as an open leaves it that takes it
abbrev pub forgotten : ℕ → Area → Area
forgotten pid a = cond (has_pid pid a) (record { pid = a.pid; users = a.users; marks = no_marks }) a

-- "an area freshly taken by the same filters": the PID's area has seen nothing; its users, all filters and all else are as they are
abbrev pub anew : ℕ → State → State
anew pid s = record { areas = map (forgotten pid) s.areas; filters = s.filters; choices = s.choices; next = s.next }

-- what an open leaves that takes an area: there is nothing to forget
abbrev pub FreshlyTaken : Driver → Type 0
FreshlyTaken d =
    (store : List ℕ) (calls : List Call) → length store ≡ store_bytes → (pid : ℕ) (choice : Choice) → has_area pid (world_after d store calls).state.areas ≡ false
    → let s = (after d (world_after d store calls) (open_call pid choice)).state in
    anew pid s ≡ s

-- the call is no packet of this PID
abbrev pub is_else : ℕ → Call → Bool
is_else pid (open_call q choice) = true
is_else pid (close_call number) = true
is_else pid (packet_call p lent) = not (eqb (pid_of p) pid)

-- the calls but the packets of a PID: the same opens and closes, so the same filters, and an area that has seen nothing
abbrev pub without : ℕ → List Call → List Call
without pid calls = keep (is_else pid) calls

-- ---- from a call on
-- "and given the same calls": whatever is called later, last first or as it comes, has the same answers and leaves the same state
pub record Onward (d : Driver) (w v : World) : Type 0 where
  pub log : (later : List Call) → log_from d w later ≡ log_from d v later
  pub heard : (later : List Call) → heard_from d w later ≡ heard_from d v later
  pub state : (later : List Call) → (run_from d w later).state ≡ (run_from d v later).state

-- ---- after a jump
-- "Only the jump mark and the given-up count of that first call may differ": what is said of a jump that gives up so many sections more, by what a fresh area says
abbrev pub said_of_jump : ℕ → Said → Said
said_of_jump lost q =
    record { wanted = q.wanted; sections = q.sections; bytes = q.bytes; jump = true; repeat = q.repeat; given_up = lost + q.given_up; begun = q.begun }

-- a packet call of which w says r and that leaves the buffers so, held against v, in which the area of its PID is fresh
pub record AsNewFrom (d : Driver) (lost : ℕ) (w v : World) (p : List ℕ) (lent left : Buffers) (r : Said) : Type 0 where
  -- the same filters, with the same numbers, places and choices
  pub taken : v.state ≡ anew (pid_of p) w.state
  -- "in that call": v leaves every byte of the output and every place of the list the same, and says what w says but for the jump
  pub told : Said
  pub answer : event d v (packet_call p lent) ≡ packet_event p lent (given told) left
  pub same : r ≡ said_of_jump lost told
  pub never : told.jump ≡ false
  -- "and after it"
  pub onward : Onward d (after d w (packet_call p lent)) (after d v (packet_call p lent))

-- of any run, last first or as it comes, and any packet call after it whose answer has a mark: by how many bytes were held it gives up so many sections more.
-- The mark and the count are left open, so that wrong ones can be held to it
abbrev pub AsNewAfter : Driver → (World → List Call → World) → (Said → Bool) → (ℕ → ℕ) → Type 0
AsNewAfter d run mark lost =
    (store store₂ : List ℕ) → length store ≡ store_bytes → length store₂ ≡ store_bytes → (earlier : List Call) (p : List ℕ) (lent left : Buffers) (r : Said)
    → let w = run (start store) earlier in
    event d w (packet_call p lent) ≡ packet_event p lent (given r) left → mark r ≡ true
    → AsNewFrom d (lost (held_in (area_of (pid_of p) w.state.areas) w.state)) w (run (start store₂) (without (pid_of p) earlier)) p lent left r

-- "from a packet call which reports a jump": one section more is given up where bytes were held
abbrev pub AfterJumps : Driver → (World → List Call → World) → Type 0
AfterJumps d run = AsNewAfter d run (λ r. r.jump) unfinished_of

-- ---- after a start
-- a packet is accepted, and not told as a repeat
pub record TakenIn (d : Driver) (w : World) (p : List ℕ) (lent : Buffers) : Type 0 where
  pub left : Buffers
  pub said : Said
  pub answer : event d w (packet_call p lent) ≡ packet_event p lent (given said) left
  pub wanted : said.wanted ≡ true
  pub original : said.repeat ≡ false

-- of two runs that differ in packets of a PID alone, by a loss that may show or not: after a packet of it with unit start and payload that is taken in both nothing differs any more
abbrev pub AfterStarts : Driver → (World → List Call → World) → Type 0
AfterStarts d run =
    (store store₂ : List ℕ) → length store ≡ store_bytes → length store₂ ≡ store_bytes → (earlier earlier₂ : List Call) (p : List ℕ) (lent : Buffers)
    → without (pid_of p) earlier ≡ without (pid_of p) earlier₂ → (contents p).unit_start ≡ true → (payload_of p ≡ [] → ⊥)
    → let w = run (start store) earlier in
    let v = run (start store₂) earlier₂ in
    TakenIn d w p lent → TakenIn d v p lent → Onward d (after d w (packet_call p lent)) (after d v (packet_call p lent))

-- ---- filters closed and opened again, or any others
-- the packets of a filter's PID since its area was taken, up to its close, and how many of them came since its open
abbrev pub packets_for : OpenedFilter → List AcceptedCall → List Packet
packets_for f h = packets f.pid (up_to_close f.number h)

abbrev pub since_open : OpenedFilter → List AcceptedCall → ℕ
since_open f h = since f (up_to_close f.number h)

-- what the rule completes from a jump on is what it completes of the same packets in an area freshly taken just before it
abbrev pub Completes : Type 0
Completes =
    (earlier later : List Packet) (p : Packet) → (rule (remembered earlier) p).jump ≡ true
    → (k : ℕ) → k ≤ suc (length later) → completed k (later ++ p ∷ earlier) ≡ completed k (later ++ p ∷ [])

-- so two filters of one choice, whatever their numbers, places, PIDs and runs, are handed the same from there on: the one whose area saw other packets before,
-- and the one whose area was taken just before the packet that jumps. What the first was handed before that comes first
abbrev pub HandedAgain : Driver → Type 0
HandedAgain d =
    (store store₂ : List ℕ) → length store ≡ store_bytes → length store₂ ≡ store_bytes → (calls calls₂ : List Call) (f g : OpenedFilter) → f.choice ≡ g.choice
    → let h = history d store calls in
    let h₂ = history d store₂ calls₂ in
    opening_of f.number h ≡ Some f → opening_of g.number h₂ ≡ Some g
    → (earlier later : List Packet) (p : Packet) → (rule (remembered earlier) p).jump ≡ true → packets_for f h ≡ later ++ p ∷ earlier → packets_for g h₂ ≡ later ++ p ∷ []
    → (before : ℕ) → since_open g h₂ ≤ suc (length later) → since_open f h ≡ before + since_open g h₂
    → handed f h ≡ through f.choice (completed before (drop (since_open g h₂) (packets_for f h))) ++ handed g h₂

-- ---- no byte of the store is read that is not held
-- every used area of a state holds the same bytes in both stores
abbrev pub HoldsSame : State → List ℕ → List ℕ → Type 0
HoldsSame s store store₂ =
    (i : ℕ) → i < length s.areas → is_used (get_or s.areas i free_area) ≡ true
    → stretch (held_in i s) store (area_start i) ≡ stretch (held_in i s) store₂ (area_start i)

-- equal states, stores of one size, and equal held bytes of every used area
pub record SameHeld (w v : World) : Type 0 where
  pub state : w.state ≡ v.state
  pub size : length w.store ≡ length v.store
  pub held : HoldsSame w.state w.store v.store

-- then no call tells them apart, and it leaves them so
abbrev pub Unread : Driver → Type 0
Unread d =
    (w v : World) → length w.state.areas ≡ area_count → SameHeld w v → (c : Call) → (event d w c ≡ event d v c) × SameHeld (after d w c) (after d v c)

-- ---- all that is claimed of a driver
pub record AsNew (d : Driver) : Type 0 where
  pub jumps : AfterJumps d (run_from d)
  pub jumps_as_they_come : AfterJumps d (play_from d)
  pub starts : AfterStarts d (run_from d)
  pub starts_as_they_come : AfterStarts d (play_from d)
  pub again : HandedAgain d
  pub unread : Unread d
  pub taken : FreshlyTaken d
  -- no less is true: a jump does give up what was held, and a packet in step is not as new
  pub given_up_needed : AsNewAfter d (run_from d) (λ r. r.jump) (λ held. 0) → ⊥
  pub jump_needed : AsNewAfter d (run_from d) (λ r. r.wanted) unfinished_of → ⊥
