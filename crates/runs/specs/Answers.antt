-- Document 01, "What the proofs have to say" (the third demand): what each call has to answer, by what was accepted before it: in a run no answer hangs on anything else.
use Rattle.std.specs.Prelude.{Bool, true, false, cond, not, ◌&&◌, ◌||◌, List, [], ◌∷◌, ◌++◌, map, ℕ, ◌+◌, ltb, leb, eqb, length, drop, Some, None}
use Rattle.ground.specs.House.{area_count, place_count, last_number, least_output, least_list, last_filter_pid}
use Rattle.ground.specs.Answer.{Answer, refused, given}
use Rattle.std.specs.declared.option.Option.{Option}
use Rattle.ground.specs.Refusal.{Row, judge, ◌when◌}
use Rattle.ground.specs.Set.{set_of}
use Rattle.ground.specs.Walk.{find}
use Rattle.packet.specs.Packet.{packet_refusals, contents}
use Rattle.gather.specs.Rule.{Outcome, rule, leaves_none}
use Rattle.gather.specs.Kind.{join}
use Rattle.section.specs.Section.{table_of}
use Rattle.state.specs.Choice.{sound_choice}
use Rattle.state.specs.declared.Choice.{Choice}
use Rattle.open_call.specs.Open.{Place}
use Rattle.packet.specs.Payload.{payload_of}
use Rattle.packet_call.specs.Packet.{unwanted, pid_of, packet_from, report}
use Rattle.runs.specs.Run.{Buffers, Call, open_call, close_call, packet_call, Event, open_event, close_event, packet_event}
use Rattle.runs.specs.History.{OpenedFilter, AcceptedCall, numbers_given, opening_of, is_on_for, is_closed, more_opens, standing, areas_taken, packets, remembered}

-- ---- open: "12, 17, 13, 14, 15"; the state of a run is sound, so 1 is never given
-- nobody stands there
abbrev pub is_absent : Option OpenedFilter → Bool
is_absent None = true
is_absent (Some f) = false

-- "the lowest free place", or 32
abbrev pub lowest_free : List AcceptedCall → ℕ
lowest_free h = find is_absent (standing h)

-- "PID above 0x1FFE"; "table_id 255"; "all 65,535 numbers given"; "32 filters are open"; "no area has this PID and all 8 are taken"
abbrev pub open_rows : List AcceptedCall → ℕ → Choice → List Row
open_rows h pid choice =
    (12 when ltb last_filter_pid pid)
    ∷ (17 when not (sound_choice choice))
    ∷ (13 when leb last_number (numbers_given h))
    ∷ (14 when leb place_count (lowest_free h))
    ∷ (15 when (not (more_opens pid h) && leb area_count (areas_taken h)))
    ∷ []

-- "given in rising order", from 1 on
abbrev pub open_answer : List AcceptedCall → ℕ → Choice → Answer Place
open_answer h pid choice = judge refused (open_rows h pid choice) (given (record { number = numbers_given h + 1; place = lowest_free h }))

-- ---- close: "16"
-- the number was given and not closed
abbrev pub is_given : List AcceptedCall → ℕ → Bool
is_given h number = not (is_absent (opening_of number h)) && not (is_closed number h)

abbrev pub close_answer : List AcceptedCall → ℕ → Answer (Unit {0})
close_answer h number = judge refused ((16 when not (is_given h number)) ∷ []) (given tt)

-- ---- packet: "3, 2, 4, 5, 6, 7, 8", with ticket 6 of document 02 "36 .. after 8"; "then, if the PID has no area, "not wanted"; then 10, 11"; the area never contradicts the state, so 9 is never given
abbrev pub early_rows : List ℕ → Buffers → List Row
early_rows p lent = (3 when (ltb (length lent.out) least_output || ltb (length lent.sets) least_list)) ∷ packet_refusals p

abbrev pub late_rows : List ℕ → List Row
late_rows p = (10 when not (eqb (contents p).scrambling 0)) ∷ (11 when leaves_none (contents p).unit_start (payload_of p)) ∷ []

-- what demand 2's rule makes of a packet after the accepted packets of its PID since the area was taken
abbrev pub outcome_after : List AcceptedCall → List ℕ → Outcome
outcome_after h p = rule (remembered (packets (pid_of p) h)) (packet_from p)

-- the places at which a filter on the PID stands that lets a table_id through
abbrev pub places_after : List AcceptedCall → ℕ → ℕ → ℕ
places_after h pid table = set_of (is_on_for pid table) (standing h)

-- "Finished sections stand joined at the start of the output"; "Output bytes past the sections are unchanged"
abbrev pub written : Outcome → List ℕ → List ℕ
written o lent = join o.sections ++ drop (length (join o.sections)) lent

-- "one 32-bit set of filter places for each section, in order; later places stay"
abbrev pub listed : List AcceptedCall → ℕ → Outcome → List ℕ → List ℕ
listed h pid o lent = map (λ s. places_after h pid (table_of s)) o.sections ++ drop (length o.sections) lent

-- what an accepted packet leaves in the buffers
abbrev pub filled : List AcceptedCall → List ℕ → Buffers → Buffers
filled h p lent = record { out = written (outcome_after h p) lent.out; sets = listed h (pid_of p) (outcome_after h p) lent.sets }

-- a packet that is refused, or not wanted, writes nothing
abbrev pub packet_answer : List AcceptedCall → List ℕ → Buffers → Event
packet_answer h p lent =
    judge (λ n. packet_event p lent (refused n) lent) (early_rows p lent)
    (cond (more_opens (pid_of p) h)
    (judge (λ n. packet_event p lent (refused n) lent) (late_rows p)
    (packet_event p lent (given (report (outcome_after h p))) (filled h p lent)))
    (packet_event p lent (given unwanted) lent))

-- ---- the answer to any call
abbrev pub answer_to : List AcceptedCall → Call → Event
answer_to h (open_call pid choice) = open_event pid choice (open_answer h pid choice)
answer_to h (close_call number) = close_event number (close_answer h number)
answer_to h (packet_call p lent) = packet_answer h p lent
