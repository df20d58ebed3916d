-- Request 14 of document 02, "After a jump, as good as new": what is claimed of the rule. A jump forgets all that the area had seen, and so does a packet that starts a section; and which losses show.
use Rattle.std.specs.Prelude.{◌≡◌, Bool, true, false, cond, List, [], ◌∷◌, ◌++◌, ℕ, ◌+◌, ◌%◌, ◌≤◌, length}
use Rattle.ground.specs.Walk.{Every}
use Rattle.gather.specs.Rule.{seen, State, blank, Packet, Outcome, nothing, unfinished, walk, add, front, back, yield, kept, taken, rule}
use Rattle.gather.specs.Run.{Ran, run, outcomes}
use Rattle.gather.specs.Claims.OneRepeat.{has_payload, Brings}

-- ---- a jump
-- "Only the jump mark and the given-up count of that first call may differ": what is told of a packet that jumps where these bytes were held, by what a freshly taken area tells of it
abbrev pub jumped : List ℕ → Outcome → Outcome
jumped held o =
    record { next = o.next; sections = o.sections; jump = true; repeat = o.repeat; given_up = unfinished held + o.given_up; begun = o.begun }

-- the same of packets one after the other, the first of which jumps
abbrev pub jumped_first : List ℕ → Ran → Ran
jumped_first held r = record { next = r.next; sections = r.sections; given_up = unfinished held + r.given_up; begun = r.begun }

-- of any rule, so that wrong ones can be held to it
abbrev pub Forgets : (State → Packet → Outcome) → Type 0
Forgets gather = (s : State) (p : Packet) → (gather s p).jump ≡ true → gather s p ≡ jumped s.held (gather blank p)

-- a rule that does something else where ours jumps
abbrev pub at_jumps : (State → Packet → Outcome) → State → Packet → Outcome
at_jumps other s p = cond (rule s p).jump (other s p) (rule s p)

-- a jump leaves the mark of a repeat, so that the next packet with this counter jumps again
abbrev pub mark_kept : State → Packet → Outcome
mark_kept =
    at_jumps (λ s p.
    let o = rule s p in
    record { next = record { held = o.next.held; last = seen p.counter true }; sections = o.sections; jump = true; repeat = false; given_up = o.given_up; begun = o.begun })

-- the held bytes are kept, and the payload is added to them
abbrev pub held_kept : State → Packet → Outcome
held_kept = at_jumps (λ s p. taken true p 0 (yield s.held p.start p.payload))

-- the payload of the packet that jumps is dropped
abbrev pub payload_dropped : State → Packet → Outcome
payload_dropped = at_jumps (λ s p. taken true p (unfinished s.held) nothing)

pub record JumpForgets : Type 0 where
  -- in that call
  pub call : Forgets rule
  pub excluded : Every (λ (gather : State → Packet → Outcome). Forgets gather → ⊥) (mark_kept ∷ held_kept ∷ payload_dropped ∷ [])
  -- "the first counter of a fresh area is never a jump", nor is it a repeat
  pub fresh : (p : Packet) → ((rule blank p).jump ≡ false) × ((rule blank p).repeat ≡ false)
  -- "and after it": nothing differs any more
  pub later : (s : State) (p : Packet) → (rule s p).jump ≡ true → (ps : List Packet) → outcomes rule (rule s p).next ps ≡ outcomes rule (rule blank p).next ps
  pub altogether : (s : State) (p : Packet) → (rule s p).jump ≡ true → (ps : List Packet) → run s (p ∷ ps) ≡ jumped_first s.held (run blank (p ∷ ps))

-- ---- a start
-- unit start and a payload, and not told as a repeat
pub record Starts (s : State) (p : Packet) : Type 0 where
  pub start : p.start ≡ true
  pub payload : has_payload p ≡ true
  pub original : (rule s p).repeat ≡ false

-- the section that the p bytes finish, if they finish one
abbrev pub finished_first : State → Packet → List (List ℕ)
finished_first s p = (add (kept (rule s p).jump s.held) (front p.payload)).sections

pub record StartForgets : Type 0 where
  -- whatever two areas had seen, such a packet leaves both the same
  pub next : (s t : State) (p : Packet) → Starts s p → Starts t p → (rule s p).next ≡ (rule t p).next
  -- its sections are those that start in it, and before them at most the one that it finishes
  pub sections : (s : State) (p : Packet) → Starts s p → (rule s p).sections ≡ finished_first s p ++ (walk (back p.payload)).sections
  pub most : (s : State) (p : Packet) → length (finished_first s p) ≤ 1

-- ---- which losses show
-- the counter that comes after this one where so many packets with payload were lost between them; one that was sent twice counts once
abbrev pub counter_after : ℕ → ℕ → ℕ
counter_after l lost = (l + 1 + lost) % 16

-- a packet with payload comes to an area with this last counter after so many were lost
pub record Comes (s : State) (p : Packet) (l : ℕ) (repeated : Bool) (lost : ℕ) : Type 0 where
  pub counter : l ≤ 15
  pub last : s.last ≡ seen l repeated
  pub brings : Brings (counter_after l lost) p

pub record LossShows : Type 0 where
  -- 1 to 14, modulo 16, are a jump
  pub jump : (s : State) (p : Packet) (l : ℕ) (repeated : Bool) (lost : ℕ) → Comes s p l repeated lost → 1 ≤ lost % 16 → lost % 16 ≤ 14 → (rule s p).jump ≡ true
  -- "A loss that leaves the counter in step" shows nothing
  pub in_step : (s : State) (p : Packet) (l : ℕ) (repeated : Bool) (lost : ℕ) → Comes s p l repeated lost → lost % 16 ≡ 0
      → ((rule s p).jump ≡ false) × ((rule s p).repeat ≡ false)
  -- 15 look like a repeat, and like a jump where the repeat was seen before
  pub as_repeat : (s : State) (p : Packet) (l lost : ℕ) → Comes s p l false lost → lost % 16 ≡ 15 → (rule s p).repeat ≡ true
  pub after_repeat : (s : State) (p : Packet) (l lost : ℕ) → Comes s p l true lost → lost % 16 ≡ 15 → (rule s p).jump ≡ true

-- ---- all that is claimed of it
pub record RuleAsNew : Type 0 where
  pub jump : JumpForgets
  pub start : StartForgets
  pub loss : LossShows
