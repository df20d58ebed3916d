-- What the functions below the call promise: sizes that were measured, and what was copied by them; no public promise cites it.
use Rattle.std.specs.Prelude.{Bool, true, false, List, ℕ, ◌+◌, ◌≤◌, length}
use Rattle.ground.specs.House.{area_bytes, least_output, payload_bytes}
use Rattle.ground.specs.Write.{put}
use Rattle.gather.specs.declared.Marks.{Marks}
use Rattle.gather.specs.declared.Gathered.{Gathered}
use Rattle.gather.specs.declared.measure.Sizes.{Sizes}
use Rattle.gather.specs.declared.kind.Kind.{Kind}
use Rattle.gather.specs.declared.kind.Kind.TheVariants.{Nothing, Part, Overlong, Whole}
use Rattle.gather.specs.Kind.{join}
use Rattle.gather.specs.Rule.{Yield}
use Rattle.gather.specs.Memory.{marks_as, with_repeated}

-- the bytes may be held: they are a part of a section
abbrev pub is_part : Kind → Bool
is_part Nothing = false
is_part Part = true
is_part Overlong = false
is_part (Whole n) = false

-- sizes, by their numbers
abbrev pub sizes_as : ℕ → ℕ → ℕ → ℕ → ℕ → Sizes
sizes_as sections bytes held given_up begun = record { sections = sections; bytes = bytes; held = held; given_up = given_up; begun = begun }

-- the sizes of what some bytes give that begin so many sections
abbrev pub sizes_of : ℕ → Yield → Sizes
sizes_of begun y = sizes_as (length y.sections) (length (join y.sections)) (length y.held) y.given_up begun

-- sizes, and every byte of the store and of the output
pub record Carried : Type 0 where
  pub sizes : Sizes
  pub store : List ℕ
  pub out : List ℕ

-- what is held stands from its area's first byte on, and "finished sections stand joined at the start of the output"; every other byte is as before
abbrev pub carried : ℕ → Yield → List ℕ → ℕ → List ℕ → Carried
carried begun y store base out = record { sizes = sizes_of begun y; store = put store base y.held; out = put out 0 (join y.sections) }

-- sizes, and the store and the output as they are then
abbrev pub carried_as : Sizes → List ℕ → List ℕ → Carried
carried_as sizes store out = record { sizes = sizes; store = store; out = out }

-- the sizes with which bytes can be gathered: the held bytes within their area, the area within the store, and room for all that can be finished
pub record Room (held : ℕ) (payload store : List ℕ) (base : ℕ) (out : List ℕ) : Type 0 where
  pub bound : held ≤ 4095
  pub short : length payload ≤ payload_bytes
  pub area : base + area_bytes ≤ length store
  pub output : least_output ≤ length out

-- the marks after a packet that is taken, and holds so many bytes
abbrev pub original_of : ℕ → ℕ → Marks
original_of held counter = marks_as held 1 counter 0

-- the numbers of a packet that is not gathered, one without payload or a repeat
abbrev pub ungathered_of : Marks → ℕ → Bool → Gathered
ungathered_of m repeated again =
    record { marks = with_repeated m repeated; sections = 0; bytes = 0; jump = false; repeat = again; given_up = 0; begun = 0 }

-- the numbers of a packet that is taken
abbrev pub taken_of : Marks → Bool → ℕ → Sizes → Gathered
taken_of marks jump given_up z =
    record { marks = marks; sections = z.sections; bytes = z.bytes; jump = jump; repeat = false; given_up = given_up; begun = z.begun }
