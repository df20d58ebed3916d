-- Document 01, "From payload to sections", with requests 3 and 10 of document 02, "One repeat, not many" and "How many sections can one packet start?": the rule alone, over an area's held bytes, its last counter, and whether that one's repeat was seen.
use Rattle.std.specs.Prelude.{Bool, true, false, cond, not, ◌&&◌, ◌||◌, List, [], ◌∷◌, ◌++◌, ℕ, ◌+◌, ◌%◌, eqb, leb, length, get_or, take, drop}
use Rattle.ground.specs.Items.{Step, takes, ends, onward, items}
use Rattle.gather.specs.declared.kind.Kind.{Kind}
use Rattle.gather.specs.declared.kind.Kind.TheVariants.{Nothing, Part, Overlong, Whole}
use Rattle.gather.specs.Kind.{classify, is_empty}

-- the area's last counter and "whether it has seen the repeat", or no counter yet
pub data Last : Type 0 where
  unseen : Last
  seen : ℕ → Bool → Last

-- what an area remembers: its held bytes, its last counter and whether that one's repeat was seen
pub record State : Type 0 where
  pub held : List ℕ
  pub last : Last

-- an area that was just taken: nothing is held, and no counter was seen
abbrev pub blank : State
blank = record { held = []; last = unseen }

-- what a packet brings: its counter, its unit start, and its payload, empty where it has none
pub record Packet : Type 0 where
  pub counter : ℕ
  pub start : Bool
  pub payload : List ℕ

-- what some bytes give: the sections that they finish, the bytes held after them, and how many sections were given up
pub record Yield : Type 0 where
  pub sections : List (List ℕ)
  pub held : List ℕ
  pub given_up : ℕ

-- what a packet does: the area's next state, the finished sections, jump, repeat, how many sections were given up, and how many were begun
pub record Outcome : Type 0 where
  pub next : State
  pub sections : List (List ℕ)
  pub jump : Bool
  pub repeat : Bool
  pub given_up : ℕ
  pub begun : ℕ

-- bytes of which nothing comes
abbrev pub nothing : Yield
nothing = record { sections = []; held = []; given_up = 0 }

-- so many held bytes are one unfinished section; no bytes are none
abbrev pub unfinished_of : ℕ → ℕ
unfinished_of held = cond (eqb held 0) 0 1

abbrev pub unfinished : List ℕ → ℕ
unfinished held = unfinished_of (length held)

infixr 20 ◌then◌
-- a section and what comes after it
abbrev pub ◌then◌ : List ℕ → Yield → Yield
s then y = record { sections = s ∷ y.sections; held = y.held; given_up = y.given_up }

-- what stands first in some bytes, by their kind: a whole section, or the end of the sections; an unfinished one is held, a section_length above 4,093 gives that section up
abbrev pub first_section : Kind → List ℕ → Step (List ℕ) Yield
first_section Nothing s = ends nothing
first_section Part s = ends (record { sections = []; held = s; given_up = 0 })
first_section Overlong s = ends (record { sections = []; held = []; given_up = 1 })
first_section (Whole n) s = takes n (take n s)

-- what stands first, and after a whole section what the rest gives
abbrev pub first : Kind → List ℕ → Yield → Yield
first k s rest = onward ◌then◌ (first_section k s) (λ n. rest)

-- "section follows section until the bytes end or a byte 0xFF stands where a table_id should"
unfoldable pub walk : List ℕ → Yield
walk s = items ◌then◌ (λ rest. first_section (classify rest) rest) nothing s

-- "if bytes are held, bytes are added until the section is full; the rest is ignored. If none are held, all are ignored"
unfoldable pub add : List ℕ → List ℕ → Yield
add held new = cond (is_empty held) nothing (first (classify (held ++ new)) (held ++ new) nothing)

-- "if it is still not full, it is given up"
abbrev pub ended : Yield → Yield
ended y = record { sections = y.sections; held = []; given_up = y.given_up + unfinished y.held }

-- what one part of the payload gives, and then the next
abbrev pub together : Yield → Yield → Yield
together a b = record { sections = a.sections ++ b.sections; held = b.held; given_up = a.given_up + b.given_up }

-- "the first byte is the pointer p"
abbrev pub pointer : List ℕ → ℕ
pointer payload = get_or payload 0 0

-- "the p bytes"
abbrev pub front : List ℕ → List ℕ
front payload = take (pointer payload) (drop 1 payload)

-- the bytes "after them"
abbrev pub back : List ℕ → List ℕ
back payload = drop (1 + pointer payload) payload

-- unit start 1: the p bytes go to the held section, and sections follow them
unfoldable pub started : List ℕ → List ℕ → Yield
started held payload = together (ended (add held (front payload))) (walk (back payload))

-- what a payload gives after the held bytes, by unit start
abbrev pub yield : List ℕ → Bool → List ℕ → Yield
yield held start payload = cond start (started held payload) (add held payload)

-- how many sections begin with what stands first in some bytes, by their kind: one, whether it ends there, is held or is given up; none where the bytes end or 0xFF stands, which is not taken as a table_id
abbrev pub first_begun : Kind → Step ℕ ℕ
first_begun Nothing = ends 0
first_begun Part = ends 1
first_begun Overlong = ends 1
first_begun (Whole n) = takes n 1

-- "how many times a byte was taken as a table_id" in some bytes, section after section
unfoldable pub begun_in : List ℕ → ℕ
begun_in s = items ◌+◌ (λ rest. first_begun (classify rest)) 0 s

-- "how many sections a packet call began": those that start in the bytes after the p bytes; the p bytes and unit start 0 begin none
abbrev pub begun_by : Bool → List ℕ → ℕ
begun_by start payload = cond start (begun_in (back payload)) 0

-- "the same counter as the area's last"
abbrev pub is_same : Last → ℕ → Bool
is_same unseen counter = false
is_same (seen l repeated) counter = eqb counter l

-- "a counter that is neither the same nor the next modulo 16"; "the first counter of a fresh area is never a jump"
abbrev pub skips : Last → ℕ → Bool
skips unseen counter = false
skips (seen l repeated) counter = not (eqb counter l) && not (eqb counter ((l + 1) % 16))

-- a repeat was seen since the area's last original
abbrev pub is_repeated : Last → Bool
is_repeated unseen = false
is_repeated (seen l repeated) = repeated

-- "only the first such packet after an original is a repeat"
abbrev pub repeats : Last → ℕ → Bool
repeats l counter = is_same l counter && not (is_repeated l)

-- "the next is a jump", and so is a counter that skips
abbrev pub jumps : Last → ℕ → Bool
jumps l counter = (is_same l counter && is_repeated l) || skips l counter

-- "A packet without payload changes nothing and gets no mark"
abbrev pub unchanged : State → Outcome
unchanged s = record { next = s; sections = []; jump = false; repeat = false; given_up = 0; begun = 0 }

-- "The area remembers whether it has seen the repeat"
abbrev pub marked : Last → Last
marked unseen = unseen
marked (seen l repeated) = seen l true

-- a repeat "is dropped, reported as such", and changes no more than that mark
abbrev pub dropped : State → Outcome
dropped s = record { next = record { held = s.held; last = marked s.last }; sections = []; jump = false; repeat = true; given_up = 0; begun = 0 }

-- after a jump "held bytes are given up"
abbrev pub kept : Bool → List ℕ → List ℕ
kept jump held = cond jump [] held

-- how many sections a jump gives up: one where bytes were held
abbrev pub lost : Bool → List ℕ → ℕ
lost jump held = cond jump (unfinished held) 0

-- "Every packet not dropped sets the last counter", and its repeat was not seen yet: it "counts as an original"
abbrev pub taken : Bool → Packet → ℕ → Yield → Outcome
taken jump p lost y =
    record {
      next = record { held = y.held; last = seen p.counter false };
      sections = y.sections;
      jump = jump;
      repeat = false;
      given_up = lost + y.given_up;
      begun = begun_by p.start p.payload;
    }

-- the rule
unfoldable pub rule : State → Packet → Outcome
rule s p =
    cond (is_empty p.payload) (unchanged s)
    (cond (repeats s.last p.counter) (dropped s)
    (taken (jumps s.last p.counter) p (lost (jumps s.last p.counter) s.held)
    (yield (kept (jumps s.last p.counter) s.held) p.start p.payload)))

-- refusal 11: a payload with unit start whose pointer p leaves no byte for a section, p + 1 not below the payload's size
abbrev pub leaves_none : Bool → List ℕ → Bool
leaves_none start payload = cond (is_empty payload) false (start && leb (length payload) (pointer payload + 1))
