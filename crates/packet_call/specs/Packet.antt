-- Document 01, "Refusal numbers" (the packet call's order) and "From payload to sections": the packet call.
use Rattle.std.specs.Prelude.{Bool, true, false, cond, not, ◌||◌, List, [], ◌∷◌, map, ℕ, ltb, leb, eqb, length, get_or, set, Option, Some, None}
use Rattle.std.specs.declared.result.Result.{Result}
use Rattle.ground.specs.declared.Refusal.{Refusal}
use Rattle.ground.specs.Told.{told}
use Rattle.state.specs.declared.After.{After}
use Rattle.ground.specs.House.{store_bytes, least_output, least_list}
use Rattle.ground.specs.Answer.{Answer, refused, given}
use Rattle.ground.specs.Refusal.{Row, judge, ◌when◌}
use Rattle.ground.specs.Write.{put}
use Rattle.packet.specs.Packet.{packet_refusals, contents}
use Rattle.packet.specs.Payload.{payload_of}
use Rattle.gather.specs.Rule.{Packet, Outcome, rule, leaves_none}
use Rattle.gather.specs.Kind.{join}
use Rattle.gather.specs.Memory.{held_of, state_of, marks_of, contradicts_of}
use Rattle.gather.specs.declared.Gathered.{Gathered}
use Rattle.section.specs.Section.{table_of}
use Rattle.state.specs.State.{area_of, area_start, free_area}
use Rattle.state.specs.Choice.{Placed, places_of, places_for}
use Rattle.state.specs.declared.Area.{Area}
use Rattle.state.specs.declared.State.{State}
use Rattle.sound.specs.Sound.{sound}
use Rattle.packet_call.specs.declared.Report.{Report}

-- what the packet call says in document 01's terms: whether the packet is wanted, and "their number (at most 61), their bytes, .. jump, repeat, and how many sections were given up (0 to 2)"; with request 10 of document 02 also "how many sections a packet call began", and with its ticket 2 no set: "The joined set goes"
pub record Said : Type 0 where
  pub wanted : Bool
  pub sections : ℕ
  pub bytes : ℕ
  pub jump : Bool
  pub repeat : Bool
  pub given_up : ℕ
  pub begun : ℕ

-- "not wanted": "counts, marks .. 0"
abbrev pub unwanted : Said
unwanted = record { wanted = false; sections = 0; bytes = 0; jump = false; repeat = false; given_up = 0; begun = 0 }

abbrev pub told_report : Report → Said
told_report r =
    record {
      wanted = true;
      sections = r.sections;
      bytes = r.bytes;
      jump = r.jump;
      repeat = r.repeat;
      given_up = r.given_up;
      begun = r.begun;
    }

-- what gathering did, as a report
abbrev pub report_of : Gathered → Report
report_of g = record { sections = g.sections; bytes = g.bytes; begun = g.begun; jump = g.jump; repeat = g.repeat; given_up = g.given_up }

-- a report, or none of a packet that is not wanted
abbrev pub told_wanted : Option Report → Said
told_wanted (Some r) = told_report r
told_wanted None = unwanted

abbrev pub told_handling : Result (Option Report) Refusal → Answer Said
told_handling r = told told_wanted r

-- the answer, the state after it, every byte of the store and of the output, and every place of the list
pub record AfterPacket : Type 0 where
  pub answer : Answer Said
  pub state : State
  pub store : List ℕ
  pub out : List ℕ
  pub sets : List ℕ

abbrev pub told_handled : After (Result (Option Report) Refusal) → List ℕ → List ℕ → List ℕ → AfterPacket
told_handled h store out sets = record { answer = told_handling h.answer; state = h.state; store = store; out = out; sets = sets }

-- ---- what the packet brings
abbrev pub pid_of : List ℕ → ℕ
pid_of p = (contents p).pid

-- what it brings to the rule: its counter, its unit start and its payload
abbrev pub packet_from : List ℕ → Packet
packet_from p = record { counter = (contents p).counter; start = (contents p).unit_start; payload = payload_of p }

-- ---- the orders
-- "3: the store or output has the wrong size"; with ticket 2 of document 02 "3 also for a short list"
abbrev pub is_wrong_size : List ℕ → List ℕ → List ℕ → Bool
is_wrong_size store out sets = not (eqb (length store) store_bytes) || ltb (length out) least_output || ltb (length sets) least_list

-- "Packet call: 1, 3, 2, 4, 5, 6, 7, 8"; with ticket 6 of document 02 "36 .. after 8"
abbrev pub first_refusals : State → List ℕ → List ℕ → List ℕ → List ℕ → List Row
first_refusals s p store out sets = (1 when not (sound s)) ∷ (3 when is_wrong_size store out sets) ∷ packet_refusals p

-- how many bytes area i holds
abbrev pub held_in : ℕ → State → ℕ
held_in i s = held_of (get_or s.areas i free_area).marks

-- "then 9, 10, 11", for the PID's area i
abbrev pub last_refusals : State → ℕ → List ℕ → List ℕ → List Row
last_refusals s i p store =
    (9 when contradicts_of (held_in i s) store (area_start i))
    ∷ (10 when not (eqb (contents p).scrambling 0))
    ∷ (11 when leaves_none (contents p).unit_start (payload_of p))
    ∷ []

-- ---- the call
-- what the rule makes of the packet in the PID's area i
abbrev pub outcome : State → ℕ → List ℕ → List ℕ → Outcome
outcome s i p store = rule (state_of (get_or s.areas i free_area).marks store (area_start i)) (packet_from p)

-- the area with the rule's marks
abbrev pub with_marks : Area → Outcome → Area
with_marks a o = record { pid = a.pid; users = a.users; marks = marks_of o.next }

-- what is said of an outcome of the rule
abbrev pub report : Outcome → Said
report o =
    record {
      wanted = true;
      sections = length o.sections;
      bytes = length (join o.sections);
      jump = o.jump;
      repeat = o.repeat;
      given_up = o.given_up;
      begun = o.begun;
    }

-- "one 32-bit set of filter places for each section, in order" (document 02, ticket 2)
abbrev pub sets_for : ℕ → List Placed → List (List ℕ) → List ℕ
sets_for i places sections = map (λ s. places_for i (table_of s) places) sections

-- the rule's outcome put back: the area's marks, its held bytes, the sections joined at the start of the output, and their sets at the start of the list; "later places stay"
abbrev pub put_back : State → ℕ → Outcome → List ℕ → List ℕ → List ℕ → AfterPacket
put_back s i o store out sets =
    record {
      answer = given (report o);
      state = record { areas = set s.areas i (with_marks (get_or s.areas i free_area) o); filters = s.filters; choices = s.choices; next = s.next };
      store = put store (area_start i) o.next.held;
      out = put out 0 (join o.sections);
      sets = put sets 0 (sets_for i (places_of s) o.sections);
    }

abbrev pub as_given : State → List ℕ → List ℕ → List ℕ → Answer Said → AfterPacket
as_given s store out sets answer = record { answer = answer; state = s; store = store; out = out; sets = sets }

-- "then 9, 10, 11"
abbrev pub after_tests : State → ℕ → List ℕ → List ℕ → List ℕ → List ℕ → AfterPacket
after_tests s i p store out sets =
    judge (λ n. as_given s store out sets (refused n)) (last_refusals s i p store) (put_back s i (outcome s i p store) store out sets)

-- "then, if the PID has no area, the answer "not wanted" (counts, marks .. 0, nothing written)"
abbrev pub after_reading : State → ℕ → List ℕ → List ℕ → List ℕ → List ℕ → AfterPacket
after_reading s i p store out sets = cond (leb (length s.areas) i) (as_given s store out sets (given unwanted)) (after_tests s i p store out sets)

unfoldable pub packet_of : State → List ℕ → List ℕ → List ℕ → List ℕ → AfterPacket
packet_of s p store out sets =
    judge (λ n. as_given s store out sets (refused n)) (first_refusals s p store out sets) (after_reading s (area_of (pid_of p) s.areas) p store out sets)
