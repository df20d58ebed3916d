-- What is claimed of the rule and of the public calls, and proved.
pub mod OneRepeat
pub mod Begun
pub mod AsNew
use Rattle.std.specs.Prelude.{◌≡◌, Bool, true, false, List, [], ◌∷◌, ◌++◌, ℕ, ◌+◌, ◌≤◌, ◌<◌, length, take, drop}
use Rattle.ground.specs.House.{least_output, payload_bytes}
use Rattle.ground.specs.Outcome.{Determined}
use Rattle.ground.specs.Refusal.{ExactCall}
use Rattle.ground.specs.Answer.{refused}
use Rattle.ground.specs.Walk.{Every}
use Rattle.ground.specs.Write.{put}
use Rattle.gather.specs.Kind.{classify, contradicting, join, cut}
use Rattle.gather.specs.Rule.{State, Packet, Outcome, nothing, ◌then◌, walk, repeats, rule}
use Rattle.gather.specs.Memory.{counter_of, sound_marks, marks_of, state_of, gather_refusals, Leaves, leaves, gather_of}
use Rattle.gather.specs.Run.{run, starting}
use Rattle.gather.specs.Claims.OneRepeat.{OneRepeatHolds}
use Rattle.gather.specs.Claims.Begun.{BegunHolds}
use Rattle.gather.specs.Claims.AsNew.{RuleAsNew}
use Rattle.gather.specs.Examples.{Longest, Stuck}
use Rattle.gather.specs.Promises.{TellsSound, TellsHeld, TellsContradiction, TellsNoneLeft, Gathers}
use Rattle.gather.specs.declared.Marks.{Marks}
use Rattle.gather.specs.declared.kind.Kind.TheVariants.{Nothing, Whole}

-- a whole section: "3 + section_length bytes", of which none is missing and none too many
abbrev pub IsWhole : List ℕ → Type 0
IsWhole s = classify s ≡ Whole (length s)

-- there are bytes
abbrev pub Some : List ℕ → Type 0
Some bytes = 0 < length bytes

-- what the rule keeps of an area whose held bytes do not contradict themselves
pub record Keeps (s : State) (p : Packet) (o : Outcome) : Type 0 where
  -- every finished section is whole
  pub whole : Every IsWhole o.sections
  -- what is held never contradicts itself, so refusal 9 cannot follow
  pub part : contradicting o.next.held ≡ false
  -- "held bytes are 0 to 4,095"
  pub held : length o.next.held ≤ 4095
  -- "how many sections were given up (0 to 2)"
  pub two : o.given_up ≤ 2
  -- "their number (at most 61)"
  pub count : length p.payload ≤ payload_bytes → length o.sections ≤ 61
  -- no more bytes are finished than were held and came
  pub within : length (join o.sections) ≤ length s.held + length p.payload
  -- the output buffer of 4,278 bytes serves
  pub bytes : length p.payload ≤ payload_bytes → length (join o.sections) ≤ least_output
  -- a counter of 0 to 15
  pub counter : counter_of s.last ≤ 15 → p.counter ≤ 15 → counter_of o.next.last ≤ 15
  -- the marks stay sound
  pub sound : sound_marks (marks_of s) ≡ true → p.counter ≤ 15 → sound_marks (marks_of o.next) ≡ true

-- a packet that starts no section: nothing comes of nothing held, and after a finished section nothing is held
pub record Never (s : State) (o : Outcome) : Type 0 where
  pub none : length s.held ≡ 0 → (o.sections ≡ []) × (length o.next.held ≡ 0)
  pub ends : 0 < length o.sections → length o.next.held ≡ 0

-- a payload of whole sections, and then 0xFF or nothing, gives exactly those, whatever was held before
abbrev pub Exactly : Type 0
Exactly =
    (s : State) (counter : ℕ) (ss : List (List ℕ)) (t : List ℕ) → contradicting s.held ≡ false → repeats s.last counter ≡ false
    → Every IsWhole ss → classify t ≡ Nothing
    → let o = rule s (record { counter = counter; start = true; payload = 0 ∷ (join ss ++ t) }) in
    (o.sections ≡ ss) × (o.next.held ≡ [])

-- a section that is spread over packets in step is gathered whole
abbrev pub Spread : Type 0
Spread =
    (s : State) (counter : ℕ) (a : List ℕ) (bs : List (List ℕ)) (c tail : List ℕ) → contradicting s.held ≡ false → repeats s.last counter ≡ false
    → Some a → Every Some bs → Some c → IsWhole (a ++ (join bs ++ c))
    → (run s (starting counter a (bs ++ (c ++ tail) ∷ []))).sections ≡ (a ++ (join bs ++ c)) ∷ []

pub record Claims : Type 0 where
  -- any two outcomes that a promise admits are equal
  pub tells_sound : (marks : Marks) → Determined (TellsSound marks)
  pub tells_held : (marks : Marks) → Determined (TellsHeld marks)
  pub tells_contradiction : (held : ℕ) (store : List ℕ) (base : ℕ) → Determined (TellsContradiction held store base)
  pub tells_none_left : (start : Bool) (payload : List ℕ) → Determined (TellsNoneLeft start payload)
  pub gathers : (marks : Marks) (counter : ℕ) (start : Bool) (payload store : List ℕ) (base : ℕ) (out : List ℕ)
      → Determined (Gathers marks counter start payload store base out)
  -- the table is exact, and a refused call leaves every byte
  pub exact : (marks : Marks) (counter : ℕ) (start : Bool) (payload store : List ℕ) (base : ℕ) (out : List ℕ)
      → ExactCall (gather_refusals marks counter payload store base out) (λ (l : Leaves). l.answer) (λ n. leaves (refused n) store out)
      (gather_of marks counter start payload store base out)
  -- what the rule keeps
  pub keeps : (s : State) (p : Packet) → contradicting s.held ≡ false → Keeps s p (rule s p)
  -- "section follows section until the bytes end or a byte 0xFF stands where a table_id should"
  pub follows : (s : List ℕ) (n : ℕ) → classify s ≡ Whole n → walk s ≡ take n s then walk (drop n s)
  pub stops : (s : List ℕ) → classify s ≡ Nothing → walk s ≡ nothing
  -- "Unit start 0: .. the rest is ignored": no section is started
  pub never_starts : (s : State) (p : Packet) → p.start ≡ false → Never s (rule s p)
  pub exactly : Exactly
  pub spread : Spread
  -- "One repeat, not many"
  pub one_repeat : OneRepeatHolds
  -- "How many sections can one packet start?"
  pub begun : BegunHolds
  -- "After a jump, as good as new"
  pub as_new : RuleAsNew
  -- joined sections say where each of them is
  pub cuts : (s : State) (p : Packet) → contradicting s.held ≡ false → cut (join (rule s p).sections) ≡ (rule s p).sections
  -- "An unfinished one is held, from its area's first byte on": what the rule remembers is read back from the marks and the store
  pub again : (s : State) (store : List ℕ) (base : ℕ) → base + length s.held ≤ length store → state_of (marks_of s) (put store base s.held) base ≡ s
  pub longest : Longest
  pub stuck : Stuck
