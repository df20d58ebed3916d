-- Document 01, "From payload to sections": the rule on memory, the held bytes in an area of the store, the finished sections joined at the start of the output.
use Rattle.std.specs.Prelude.{Bool, cond, not, ◌&&◌, List, [], ◌∷◌, ℕ, ◌+◌, ◌-◌, ◌*◌, ◌/◌, ◌%◌, ltb, leb, eqb, length, take, drop}
use Rattle.std.specs.declared.result.Result as by_name
use Rattle.ground.specs.House.{area_bytes, least_output, payload_bytes}
use Rattle.ground.specs.Answer.{Answer, refused, given}
use Rattle.ground.specs.Told.{told}
use Rattle.ground.specs.declared.Refusal.{Refusal}
use Rattle.ground.specs.Refusal.{Row, judge, ◌when◌}
use Rattle.ground.specs.Write.{put}
use Rattle.gather.specs.declared.Marks.{Marks}
use Rattle.gather.specs.declared.Gathered.{Gathered}
use Rattle.gather.specs.Kind.{join, contradicting}
use Rattle.gather.specs.Rule.{Last, unseen, seen, State, Outcome, rule}

-- the marks of an area that was just taken, and of a free one
abbrev pub no_marks : Marks
no_marks = record { held_low = 0; held_high = 0; seen = 0; counter = 0; repeated = 0 }

-- how many bytes are held: the marks have the number's two bytes
abbrev pub held_of : Marks → ℕ
held_of m = m.held_low + 256 * m.held_high

-- "held bytes are 0 to 4,095; an area that has seen no counter holds 0 bytes and counter 0" and has seen no repeat, "any other used area a counter of 0 to 15" ("Filters and areas"); that a counter was seen, and that its repeat was, is marked by 0 or 1; the low byte of what is held is one
abbrev pub sound_marks : Marks → Bool
sound_marks m =
    leb m.held_low 255
    && cond (eqb m.seen 0) (eqb (held_of m) 0 && eqb m.counter 0 && eqb m.repeated 0)
    (eqb m.seen 1 && leb (held_of m) 4095 && leb m.counter 15 && leb m.repeated 1)

-- the last counter that the marks say, and whether its repeat was seen, or none yet
abbrev pub last_of : Marks → Last
last_of m = cond (eqb m.seen 0) unseen (seen m.counter (not (eqb m.repeated 0)))

-- the n bytes of s from `at` on; bytes past the end are none
abbrev pub stretch : ℕ → List ℕ → ℕ → List ℕ
stretch n s at = take n (drop at s)

-- what an area remembers, of its marks and the bytes of the store from its base on
abbrev pub state_of : Marks → List ℕ → ℕ → State
state_of m store base = record { held = stretch (held_of m) store base; last = last_of m }

-- the mark of whether a counter was seen
abbrev pub seen_of : Last → ℕ
seen_of unseen = 0
seen_of (seen l repeated) = 1

-- the last counter, 0 where there is none
abbrev pub counter_of : Last → ℕ
counter_of unseen = 0
counter_of (seen l repeated) = l

-- the mark of whether its repeat was seen
abbrev pub repeated_of : Last → ℕ
repeated_of unseen = 0
repeated_of (seen l repeated) = cond repeated 1 0

-- marks by what they say
abbrev pub marks_as : ℕ → ℕ → ℕ → ℕ → Marks
marks_as held mark counter repeated = record { held_low = held % 256; held_high = held / 256; seen = mark; counter = counter; repeated = repeated }

-- marks that say something else of the repeat
abbrev pub with_repeated : Marks → ℕ → Marks
with_repeated m repeated = record { held_low = m.held_low; held_high = m.held_high; seen = m.seen; counter = m.counter; repeated = repeated }

-- the marks of what an area remembers
abbrev pub marks_of : State → Marks
marks_of s = marks_as (length s.held) (seen_of s.last) (counter_of s.last) (repeated_of s.last)

-- what gathering says in document 01's terms: the area's marks after the packet, and of the packet call's answer all but the set
pub record Result : Type 0 where
  pub marks : Marks
  pub sections : ℕ
  pub bytes : ℕ
  pub jump : Bool
  pub repeat : Bool
  pub given_up : ℕ
  pub begun : ℕ

abbrev pub told_gathered : Gathered → Result
told_gathered g =
    record { marks = g.marks; sections = g.sections; bytes = g.bytes; jump = g.jump; repeat = g.repeat; given_up = g.given_up; begun = g.begun }

abbrev pub told_gathering : by_name.Result Gathered Refusal → Answer Result
told_gathering g = told told_gathered g

-- what the call leaves: the answer, and every byte of the store and of the output
pub record Leaves : Type 0 where
  pub answer : Answer Result
  pub store : List ℕ
  pub out : List ℕ

abbrev pub leaves : Answer Result → List ℕ → List ℕ → Leaves
leaves answer store out = record { answer = answer; store = store; out = out }

-- the numbers of an outcome of the rule
abbrev pub result_of : Outcome → Result
result_of o =
    record {
      marks = marks_of o.next;
      sections = length o.sections;
      bytes = length (join o.sections);
      jump = o.jump;
      repeat = o.repeat;
      given_up = o.given_up;
      begun = o.begun;
    }

-- an outcome of the rule on memory: what is held stands from its area's first byte on, "finished sections stand joined at the start of the output", and every other byte is as before
abbrev pub on_memory : Outcome → List ℕ → ℕ → List ℕ → Leaves
on_memory o store base out = leaves (given (result_of o)) (put store base o.next.held) (put out 0 (join o.sections))

-- 1, 3, 2, as in the packet call: the marks or the counter are not sound; the area does not lie in the store, or the output has the wrong size; the payload is longer than a packet's
abbrev pub gather_refusals : Marks → ℕ → List ℕ → List ℕ → ℕ → List ℕ → List Row
gather_refusals marks counter payload store base out =
    (1 when not (sound_marks marks))
    ∷ (1 when ltb 15 counter)
    ∷ (3 when ltb (length store) area_bytes)
    ∷ (3 when ltb (length store - area_bytes) base)
    ∷ (3 when ltb (length out) least_output)
    ∷ (2 when ltb payload_bytes (length payload))
    ∷ []

-- the call: refused, or the rule on memory
unfoldable pub gather_of : Marks → ℕ → Bool → List ℕ → List ℕ → ℕ → List ℕ → Leaves
gather_of marks counter start payload store base out =
    judge (λ n. leaves (refused n) store out) (gather_refusals marks counter payload store base out)
    (on_memory (rule (state_of marks store base) (record { counter = counter; start = start; payload = payload })) store base out)

-- refusal 9 of the held bytes of the store; bytes past the store's end are none
abbrev pub contradicts_of : ℕ → List ℕ → ℕ → Bool
contradicts_of held store base = contradicting (stretch held store base)
