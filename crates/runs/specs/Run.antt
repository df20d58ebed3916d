-- Document 01, "What the proofs have to say", the third demand: "any run of opens, closes and packet calls from a fresh state, refused ones among them, each given the last state and a store nobody else has touched".
use Rattle.std.specs.Prelude.{List, [], ◌∷◌, ℕ}
use Rattle.ground.specs.Answer.{Answer}
use Rattle.state.specs.State.{fresh}
use Rattle.open_call.specs.Open.{Place, AfterOpen, open_of}
use Rattle.close_call.specs.Close.{AfterClose, close_of}
use Rattle.packet_call.specs.Packet.{Said, AfterPacket, packet_of}
use Rattle.state.specs.declared.Choice.{Choice}
use Rattle.state.specs.declared.State.{State}

-- a driver, by what its three calls leave. The demand is stated of any, so that a wrong one can be held to it
pub record Driver : Type 0 where
  pub on_open : State → ℕ → Choice → AfterOpen
  pub on_close : State → ℕ → AfterClose
  pub on_packet : State → List ℕ → List ℕ → List ℕ → List ℕ → AfterPacket

-- ours, by the definitions that its calls promise to meet
abbrev pub ours : Driver
ours = record { on_open = open_of; on_close = close_of; on_packet = packet_of }

-- what is lent for a packet: the output, and the list for the sets
pub record Buffers : Type 0 where
  pub out : List ℕ
  pub sets : List ℕ

-- a call: an open of a PID with a choice, a close of a number, or a packet with the buffers that are lent for it; any values, for refused calls are calls
pub data Call : Type 0 where
  open_call : ℕ → Choice → Call
  close_call : ℕ → Call
  packet_call : List ℕ → Buffers → Call

-- what one call leaves to the next: the state and the store
pub record World : Type 0 where
  pub state : State
  pub store : List ℕ

-- the whole question with the whole answer; for a packet also every byte of the output and every place of the list after it
pub data Event : Type 0 where
  open_event : ℕ → Choice → Answer Place → Event
  close_event : ℕ → Answer (Unit {0}) → Event
  packet_event : List ℕ → Buffers → Answer Said → Buffers → Event

module _ (d : Driver) where
  -- the world after a call
  abbrev pub after : World → Call → World
  after w (open_call pid choice) = record { state = (d.on_open w.state pid choice).state; store = w.store }
  after w (close_call number) = record { state = (d.on_close w.state number).state; store = w.store }
  after w (packet_call p lent) = let a = d.on_packet w.state p w.store lent.out lent.sets in record { state = a.state; store = a.store }

  -- the event of a call
  abbrev pub event : World → Call → Event
  event w (open_call pid choice) = open_event pid choice (d.on_open w.state pid choice).answer
  event w (close_call number) = close_event number (d.on_close w.state number).answer
  event w (packet_call p lent) = let a = d.on_packet w.state p w.store lent.out lent.sets in packet_event p lent a.answer (record { out = a.out; sets = a.sets })

  -- calls and logs stand last first: `c ∷ cs` is "run cs, then c"
  abbrev pub run_from : World → List Call → World
  run_from w [] = w
  run_from w (c ∷ cs) = after (run_from w cs) c

  -- the log of a run
  abbrev pub log_from : World → List Call → List Event
  log_from w [] = []
  log_from w (c ∷ cs) = event (run_from w cs) c ∷ log_from w cs

  -- the same for calls as they come, first first
  abbrev pub play_from : World → List Call → World
  play_from w [] = w
  play_from w (c ∷ cs) = play_from (after w c) cs

  -- what is heard of calls as they come
  abbrev pub heard_from : World → List Call → List Event
  heard_from w [] = []
  heard_from w (c ∷ cs) = event w c ∷ heard_from (after w c) cs

-- the fresh state and a store
abbrev pub start : List ℕ → World
start store = record { state = fresh; store = store }
