-- Request 3 of document 02, "One repeat, not many": what is claimed of it, with document 01's own rule kept beside it, so that it can be said what has not changed.
use Rattle.std.specs.Prelude.{◌≡◌, Bool, true, false, cond, not, ◌&&◌, ◌||◌, List, [], ◌∷◌, map, ℕ, eqb}
use Rattle.ground.specs.Walk.{Every, keep}
use Rattle.gather.specs.Kind.{is_empty}
use Rattle.gather.specs.Rule.{Last, unseen, seen, State, blank, Packet, Outcome, unfinished, yield, is_same, skips, unchanged, kept, lost, taken, rule}
use Rattle.gather.specs.Run.{outcomes}

-- the packet has a payload
abbrev pub has_payload : Packet → Bool
has_payload p = not (is_empty p.payload)

-- the packet has a payload and this counter
abbrev pub Brings : ℕ → Packet → Type 0
Brings counter p = (has_payload p ≡ true) × (p.counter ≡ counter)

-- ---- a stuck counter
-- what packets with the last counter are told as, by turns: a repeat, or a jump where its repeat was seen
abbrev pub Alternate : Bool → List Outcome → Type 0
Alternate repeated [] = Unit {0}
Alternate repeated (o ∷ os) = (o.repeat ≡ not repeated) × (o.jump ≡ repeated) × Alternate (not repeated) os

-- "an encoder stuck on one counter" shows
pub record StuckShows : Type 0 where
  -- of three packets with one counter, one after the other, the second or the third is told as a jump, whatever the area remembers
  pub third : (s : State) (p q r : Packet) (counter : ℕ) → Brings counter p → Brings counter q → Brings counter r
      → ((rule (rule s p).next q).jump || (rule (rule (rule s p).next q).next r).jump) ≡ true
  -- after an original, of the packets with its counter the first, the third, .. are told as repeats alone, the second, the fourth, .. as jumps alone
  pub turns : (s : State) (p : Packet) (ps : List Packet) (counter : ℕ) → Brings counter p → (rule s p).repeat ≡ false → Every (Brings counter) ps
      → Alternate false (outcomes rule (rule s p).next ps)

-- ---- document 01's rule: the mark is not looked at and not set
-- a repeat "is dropped, reported as such"
abbrev pub base_dropped : State → Outcome
base_dropped s = record { next = s; sections = []; jump = false; repeat = true; given_up = 0; begun = 0 }

-- "the same counter as the area's last is a repeat and is dropped"; "A counter that is neither the same nor the next modulo 16 is a jump"
unfoldable pub base_rule : State → Packet → Outcome
base_rule s p =
    cond (is_empty p.payload) (unchanged s)
    (cond (is_same s.last p.counter) (base_dropped s)
    (taken (skips s.last p.counter) p (lost (skips s.last p.counter) s.held)
    (yield (kept (skips s.last p.counter) s.held) p.start p.payload)))

-- ---- what has not changed
-- the counters of packets, those without payload left out
abbrev pub counters : List Packet → List ℕ
counters ps = map (λ p. p.counter) (keep has_payload ps)

-- a number stands twice at the start
abbrev pub starts_twice : ℕ → List ℕ → Bool
starts_twice n [] = false
starts_twice n (a ∷ []) = false
starts_twice n (a ∷ b ∷ l) = eqb a n && eqb b n

-- a number comes three times in a row
abbrev pub is_thrice : List ℕ → Bool
is_thrice [] = false
is_thrice (n ∷ l) = starts_twice n l || is_thrice l

abbrev pub unmarked : Last → Last
unmarked unseen = unseen
unmarked (seen l repeated) = seen l false

-- an area's state without the mark
abbrev pub without_mark : State → State
without_mark s = record { held = s.held; last = unmarked s.last }

-- all of an outcome but the mark: the sections, the held bytes, the last counter, jump, repeat, and how many sections were given up and begun
abbrev pub but_the_mark : Outcome → Outcome
but_the_mark o =
    record { next = without_mark o.next; sections = o.sections; jump = o.jump; repeat = o.repeat; given_up = o.given_up; begun = o.begun }

-- where no counter comes three times in a row, packets without payload left out, each outcome from a blank area on is that of document 01's rule
abbrev pub NothingElse : Type 0
NothingElse = (ps : List Packet) → is_thrice (counters ps) ≡ false → map but_the_mark (outcomes rule blank ps) ≡ outcomes base_rule blank ps

-- ---- all that is claimed of it
pub record OneRepeatHolds : Type 0 where
  -- "A packet without payload changes nothing and gets no mark": neither jump nor repeat, and the area's mark stays
  pub without : (s : State) (p : Packet) → has_payload p ≡ false → rule s p ≡ unchanged s
  -- "only the first such packet after an original is a repeat": it is told as such, and no more than the mark changes
  pub the_first : (held : List ℕ) (counter : ℕ) (p : Packet) → Brings counter p
      → rule (record { held = held; last = seen counter false }) p
      ≡ record { next = record { held = held; last = seen counter true }; sections = []; jump = false; repeat = true; given_up = 0; begun = 0 }
  -- "the next is a jump and counts as an original, its payload gathered as after any jump": held bytes are given up, and nothing is held before its payload
  pub the_next : (held : List ℕ) (counter : ℕ) (p : Packet) → Brings counter p
      → rule (record { held = held; last = seen counter true }) p ≡ taken true p (unfinished held) (yield [] p.start p.payload)
  -- after a repeat the next packet is none, whatever its counter
  pub once : (s : State) (p q : Packet) → (rule s p).repeat ≡ true → (rule (rule s p).next q).repeat ≡ false
  -- jump and repeat are never both told
  pub either : (s : State) (p : Packet) → ((rule s p).jump && (rule s p).repeat) ≡ false
  pub stuck_shows : StuckShows
  pub nothing_else : NothingElse
