-- Document 01, "From payload to sections": packets of one PID, one after the other.
use Rattle.std.specs.Prelude.{true, false, List, [], ◌∷◌, ◌++◌, ℕ, ◌+◌, ◌%◌}
use Rattle.gather.specs.Rule.{State, Packet, Outcome, rule}

-- the state after some packets, the sections that they finished, in order, how many were given up, and how many begun
pub record Ran : Type 0 where
  pub next : State
  pub sections : List (List ℕ)
  pub given_up : ℕ
  pub begun : ℕ

-- packets taken one after the other
abbrev pub run : State → List Packet → Ran
run s [] = record { next = s; sections = []; given_up = 0; begun = 0 }
run s (p ∷ ps) =
    let o = rule s p in
    let r = run o.next ps in
    record { next = r.next; sections = o.sections ++ r.sections; given_up = o.given_up + r.given_up; begun = o.begun + r.begun }

-- the outcomes of packets taken one after the other, by some rule
abbrev pub outcomes : (State → Packet → Outcome) → State → List Packet → List Outcome
outcomes gather s [] = []
outcomes gather s (p ∷ ps) = gather s p ∷ outcomes gather (gather s p).next ps

-- a packet with unit start, and one without
abbrev pub starts : ℕ → List ℕ → Packet
starts counter payload = record { counter = counter; start = true; payload = payload }

abbrev pub continues : ℕ → List ℕ → Packet
continues counter payload = record { counter = counter; start = false; payload = payload }

-- packets without unit start, in step after a last counter: each with its payload
abbrev pub following : ℕ → List (List ℕ) → List Packet
following l [] = []
following l (b ∷ bs) = continues ((l + 1) % 16) b ∷ following ((l + 1) % 16) bs

-- a packet with unit start and pointer 0, and those after it
abbrev pub starting : ℕ → List ℕ → List (List ℕ) → List Packet
starting counter first rest = starts counter (0 ∷ first) ∷ following counter rest
