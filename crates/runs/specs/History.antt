-- Document 01, "What the proofs have to say" (the third demand): what a log says, read from its questions and answers alone, never from a state.
use Rattle.std.specs.Prelude.{Bool, true, false, cond, not, ◌&&◌, ◌||◌, List, [], ◌∷◌, ◌++◌, map, reverse, ℕ, suc, ◌+◌, ◌-◌, eqb, ltb, get_or, take, drop, set, replicate, Some, None}
use Rattle.ground.specs.Answer.{refused, given}
use Rattle.std.specs.declared.option.Option.{Option}
use Rattle.ground.specs.Set.{is_in}
use Rattle.gather.specs.Rule.{State, Packet, blank}
use Rattle.gather.specs.Run.{run}
use Rattle.gather.specs.Kind.{cut}
use Rattle.packet_call.specs.Packet.{Said, pid_of, packet_from}
use Rattle.state.specs.Choice.{lets}
use Rattle.state.specs.declared.Choice.{Choice}
use Rattle.runs.specs.Run.{Buffers, Event, open_event, close_event, packet_event}

-- ---- what was accepted
-- an accepted open: the PID and the choice asked for, and the number and the place answered
pub record OpenedFilter : Type 0 where
  pub number : ℕ
  pub pid : ℕ
  pub choice : Choice
  pub place : ℕ

-- an accepted call with its answer: of a packet its bytes and the buffers lent for it, what was said, and the buffers after it
pub data AcceptedCall : Type 0 where
  opened : OpenedFilter → AcceptedCall
  closed : ℕ → AcceptedCall
  packet : List ℕ → Buffers → Said → Buffers → AcceptedCall

-- what an event accepted: a refused call and a packet that is not wanted are nothing
abbrev pub accepted_by : Event → List AcceptedCall
accepted_by (open_event pid choice (given a)) = opened (record { number = a.number; pid = pid; choice = choice; place = a.place }) ∷ []
accepted_by (open_event pid choice (refused n)) = []
accepted_by (close_event number (given u)) = closed number ∷ []
accepted_by (close_event number (refused n)) = []
accepted_by (packet_event p lent (given r) out) = cond r.wanted (packet p lent r out ∷ []) []
accepted_by (packet_event p lent (refused n) out) = []

-- whether it accepted anything
abbrev pub is_accepted : Event → Bool
is_accepted (open_event pid choice (given a)) = true
is_accepted (open_event pid choice (refused n)) = false
is_accepted (close_event number (given u)) = true
is_accepted (close_event number (refused n)) = false
is_accepted (packet_event p lent (given r) out) = r.wanted
is_accepted (packet_event p lent (refused n) out) = false

-- what a log accepted, last first
abbrev pub accepted : List Event → List AcceptedCall
accepted [] = []
accepted (e ∷ log) = accepted_by e ++ accepted log

-- an event is refused with this number
abbrev pub is_refused : ℕ → Event → Bool
is_refused m (open_event pid choice (given a)) = false
is_refused m (open_event pid choice (refused n)) = eqb n m
is_refused m (close_event number (given u)) = false
is_refused m (close_event number (refused n)) = eqb n m
is_refused m (packet_event p lent (given r) out) = false
is_refused m (packet_event p lent (refused n) out) = eqb n m

-- ---- opens and closes
-- how many opens were accepted, and so how many numbers were given
abbrev pub numbers_given : List AcceptedCall → ℕ
numbers_given [] = 0
numbers_given (opened f ∷ h) = numbers_given h + 1
numbers_given (closed number ∷ h) = numbers_given h
numbers_given (packet p lent r out ∷ h) = numbers_given h

-- how many opens of a PID were accepted
abbrev pub opens : ℕ → List AcceptedCall → ℕ
opens pid [] = 0
opens pid (opened f ∷ h) = cond (eqb f.pid pid) 1 0 + opens pid h
opens pid (closed number ∷ h) = opens pid h
opens pid (packet p lent r out ∷ h) = opens pid h

-- the open that gave a number
abbrev pub opening_of : ℕ → List AcceptedCall → Option OpenedFilter
opening_of number [] = None
opening_of number (opened f ∷ h) = cond (eqb f.number number) (Some f) (opening_of number h)
opening_of number (closed n ∷ h) = opening_of number h
opening_of number (packet p lent r out ∷ h) = opening_of number h

-- the open that gave a number was of this PID
abbrev pub is_on : ℕ → Option OpenedFilter → Bool
is_on pid None = false
is_on pid (Some f) = eqb f.pid pid

-- and its choice lets this table_id through
abbrev pub is_on_for : ℕ → ℕ → Option OpenedFilter → Bool
is_on_for pid table None = false
is_on_for pid table (Some f) = eqb f.pid pid && lets f.choice table

-- how many closes of a PID were accepted: a close names a number, and the PID is that of the open that gave it
abbrev pub closes : ℕ → List AcceptedCall → ℕ
closes pid [] = 0
closes pid (opened f ∷ h) = closes pid h
closes pid (closed number ∷ h) = cond (is_on pid (opening_of number h)) 1 0 + closes pid h
closes pid (packet p lent r out ∷ h) = closes pid h

-- a close of this number was accepted
abbrev pub is_closed : ℕ → List AcceptedCall → Bool
is_closed number [] = false
is_closed number (opened f ∷ h) = is_closed number h
is_closed number (closed n ∷ h) = eqb n number || is_closed number h
is_closed number (packet p lent r out ∷ h) = is_closed number h

-- "A PID has an area exactly while more of its opens than closes were accepted"
abbrev pub more_opens : ℕ → List AcceptedCall → Bool
more_opens pid h = ltb (closes pid h) (opens pid h)

-- an open, unless it gave this number
abbrev pub unless : ℕ → Option OpenedFilter → Option OpenedFilter
unless number None = None
unless number (Some f) = cond (eqb f.number number) None (Some f)

-- the 32 filter places: at each the open whose filter stands there, if one does
abbrev pub standing : List AcceptedCall → List (Option OpenedFilter)
standing [] = replicate 32 None
standing (opened f ∷ h) = set (standing h) f.place (Some f)
standing (closed number ∷ h) = map (unless number) (standing h)
standing (packet p lent r out ∷ h) = standing h

-- a close of a number leaves its PID without an area
abbrev pub is_last : Option OpenedFilter → List AcceptedCall → Bool
is_last None h = false
is_last (Some f) h = not (more_opens f.pid h)

-- how many areas are taken: an open takes one where its PID has none, and the last close on a PID frees it
abbrev pub areas_taken : List AcceptedCall → ℕ
areas_taken [] = 0
areas_taken (opened f ∷ h) = areas_taken h + cond (more_opens f.pid h) 0 1
areas_taken (closed number ∷ h) = areas_taken h - cond (is_last (opening_of number h) (closed number ∷ h)) 1 0
areas_taken (packet p lent r out ∷ h) = areas_taken h

-- ---- packets
-- what is made of each accepted packet of a PID since its area was taken, last first: an open takes the area where as many of the PID's opens as closes were accepted before it
abbrev pub since_taken : {A : Type 0} → (List ℕ → Said → A) → ℕ → List AcceptedCall → List A
since_taken made pid [] = []
since_taken made pid (opened f ∷ h) = cond (eqb f.pid pid && eqb (opens pid h) (closes pid h)) [] (since_taken made pid h)
since_taken made pid (closed number ∷ h) = since_taken made pid h
since_taken made pid (packet p lent r out ∷ h) = cond (eqb (pid_of p) pid) (made p r ∷ since_taken made pid h) (since_taken made pid h)

-- the accepted packets of a PID since its area was taken
abbrev pub packets : ℕ → List AcceptedCall → List Packet
packets pid h = since_taken (λ p r. packet_from p) pid h

-- and what was said of them
abbrev pub reports : ℕ → List AcceptedCall → List Said
reports pid h = since_taken (λ p r. r) pid h

-- how many accepted packets of its PID came since a filter's open
abbrev pub since : OpenedFilter → List AcceptedCall → ℕ
since f [] = 0
since f (opened g ∷ h) = cond (eqb g.number f.number) 0 (since f h)
since f (closed number ∷ h) = since f h
since f (packet p lent r out ∷ h) = cond (eqb (pid_of p) f.pid) (suc (since f h)) (since f h)

-- a history up to the close of a number, the whole where it was not closed
abbrev pub up_to_close : ℕ → List AcceptedCall → List AcceptedCall
up_to_close number [] = []
up_to_close number (opened f ∷ h) = cond (is_closed number h) (up_to_close number h) (opened f ∷ h)
up_to_close number (closed n ∷ h) = cond (is_closed number h) (up_to_close number h) (cond (eqb n number) h (closed n ∷ h))
up_to_close number (packet p lent r out ∷ h) = cond (is_closed number h) (up_to_close number h) (packet p lent r out ∷ h)

-- ---- what a filter was handed
-- the sections that stand in as many output bytes as the answer says
abbrev pub sections_of : Said → Buffers → List (List ℕ)
sections_of r after = cut (take r.bytes after.out)

-- of some sections those whose set, at the same index of the list, has a place
abbrev pub picked : ℕ → List ℕ → List (List ℕ) → List (List ℕ)
picked place sets [] = []
picked place sets (s ∷ sections) = cond (is_in place (get_or sets 0 0)) (s ∷ picked place (drop 1 sets) sections) (picked place (drop 1 sets) sections)

-- what one packet handed to a filter: of the sections in the output those whose set has its place
abbrev pub handed_by : OpenedFilter → Said → Buffers → List (List ℕ)
handed_by f r after = picked f.place after.sets (sections_of r after)

-- what a filter was handed by the accepted packets from its open to its close, in order
abbrev pub handed : OpenedFilter → List AcceptedCall → List (List ℕ)
handed f [] = []
handed f (opened g ∷ h) = cond (eqb g.number f.number) [] (handed f h)
handed f (closed number ∷ h) = handed f h
handed f (packet p lent r out ∷ h) = handed f h ++ cond (is_closed f.number h) [] (handed_by f r out)

-- ---- what the rule completes
-- what an area remembers after packets, last first, that came since it was taken
unfoldable pub remembered : List Packet → State
remembered ps = (run blank (reverse ps)).next

-- the sections that the rule completes with the last k of some packets, after it has run over those before them from a blank area
unfoldable pub completed : ℕ → List Packet → List (List ℕ)
completed k ps = (run (remembered (drop k ps)) (reverse (take k ps))).sections
