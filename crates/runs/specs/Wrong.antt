-- Wrong drivers, each of which the demand excludes: document 01's "What the proofs have to say" and "Errors we have seen", and what a demand about open filters alone would let pass.
use Rattle.std.specs.Prelude.{true, cond, ◌&&◌, ◌||◌, List, [], ◌∷◌, map, ℕ, zero, suc, ◌+◌, ◌-◌, ◌*◌, eqb, get_or, take, drop, set, replicate}
use Rattle.ground.specs.House.{area_bytes}
use Rattle.ground.specs.Answer.{Answer, refused, given}
use Rattle.ground.specs.Set.{set_of}
use Rattle.ground.specs.Walk.{Every}
use Rattle.ground.specs.Write.{put}
use Rattle.section.specs.Section.{table_of, section_size}
use Rattle.gather.specs.Kind.{cut}
use Rattle.gather.specs.Memory.{with_repeated}
use Rattle.state.specs.State.{is_free, stands_on, area_of, place_of, free_area}
use Rattle.open_call.specs.Open.{AfterOpen, open_of}
use Rattle.close_call.specs.Close.{AfterClose, close_of, area_at}
use Rattle.packet_call.specs.Packet.{Said, AfterPacket, unwanted, as_given, pid_of, packet_of}
use Rattle.state.specs.declared.Area.{Area}
use Rattle.state.specs.Choice.{sound_choice, lets, choice_of, Placed, places_of, is_for, places_for}
use Rattle.state.specs.declared.Choice.{Choice}
use Rattle.state.specs.declared.Choice.TheVariants.{All}
use Rattle.state.specs.declared.State.{State}
use Rattle.runs.specs.Run.{Driver}
use Rattle.runs.specs.Demand.{Statement}

-- ---- a driver that differs from ours in one call
abbrev pub with_open : (State → ℕ → Choice → AfterOpen) → Driver
with_open on_open = record { on_open = on_open; on_close = close_of; on_packet = packet_of }

abbrev pub with_close : (State → ℕ → AfterClose) → Driver
with_close on_close = record { on_open = open_of; on_close = on_close; on_packet = packet_of }

abbrev pub with_packet : (State → List ℕ → List ℕ → List ℕ → List ℕ → AfterPacket) → Driver
with_packet on_packet = record { on_open = open_of; on_close = close_of; on_packet = on_packet }

-- of a wanted packet something else is said
abbrev pub told_as : (Said → Said) → Answer Said → Answer Said
told_as tell (refused n) = refused n
told_as tell (given r) = given (cond r.wanted (tell r) r)

abbrev pub retold : (Said → Said) → AfterPacket → AfterPacket
retold tell a = record { answer = told_as tell a.answer; state = a.state; store = a.store; out = a.out; sets = a.sets }

abbrev pub told_sections : ℕ → Said → Said
told_sections sections r =
    record { wanted = r.wanted; sections = sections; bytes = r.bytes; jump = r.jump; repeat = r.repeat; given_up = r.given_up; begun = r.begun }

abbrev pub told_jump : Said → Said
told_jump r =
    record { wanted = r.wanted; sections = r.sections; bytes = r.bytes; jump = true; repeat = r.repeat; given_up = r.given_up; begun = r.begun }

abbrev pub told_begun : (Said → ℕ) → Said → Said
told_begun begun r =
    record { wanted = r.wanted; sections = r.sections; bytes = r.bytes; jump = r.jump; repeat = r.repeat; given_up = r.given_up; begun = begun r }

-- other bytes of the output are written after a packet
abbrev pub rewritten : (AfterPacket → List ℕ) → AfterPacket → AfterPacket
rewritten out a = record { answer = a.answer; state = a.state; store = a.store; out = out a; sets = a.sets }

abbrev pub bytes_said : Answer Said → ℕ
bytes_said (refused n) = 0
bytes_said (given r) = r.bytes

-- other sets are listed after a packet: for each section of the output this one
abbrev pub relisted : (List ℕ → ℕ) → List ℕ → AfterPacket → AfterPacket
relisted set_for lent a =
    record { answer = a.answer; state = a.state; store = a.store; out = a.out; sets = put lent 0 (map set_for (cut (take (bytes_said a.answer) a.out))) }

-- ---- who is told
-- a free place, whose record is all zero, counts as standing on area 0
abbrev pub free_place_told : Driver
free_place_told =
    with_packet (λ s p store out sets.
    relisted (λ x. set_of (λ r. eqb r.filter.area (area_of (pid_of p) s.areas) && lets (choice_of r.choice) (table_of x)) (places_of s)) sets (packet_of s p store out sets))

-- places that were ever taken, the closed ones among them: of the first k those that are free count too
abbrev pub ever_taken : ℕ → ℕ → ℕ → List Placed → ℕ
ever_taken i table zero ps = places_for i table ps
ever_taken i table (suc k) [] = 0
ever_taken i table (suc k) (r ∷ ps) = cond (is_for i table r || is_free r.filter) 1 0 + 2 * ever_taken i table k ps

-- a place that was closed stays in the sets
abbrev pub closed_place_told : Driver
closed_place_told =
    with_packet (λ s p store out sets. relisted (λ x. ever_taken (area_of (pid_of p) s.areas) (table_of x) (s.next - 1) (places_of s)) sets (packet_of s p store out sets))

-- a filter's choice is not looked at: every filter on the PID is told of every section
abbrev pub choice_ignored : Driver
choice_ignored =
    with_packet (λ s p store out sets. relisted (λ x. set_of (λ r. stands_on (area_of (pid_of p) s.areas) r.filter) (places_of s)) sets (packet_of s p store out sets))

-- every section gets the first one's set
abbrev pub first_set_for_all : Driver
first_set_for_all =
    with_packet (λ s p store out sets.
    let a = packet_of s p store out sets in
    relisted (λ x. places_for (area_of (pid_of p) s.areas) (table_of a.out) (places_of s)) sets a)

-- a place of the list behind the sections is written
abbrev pub list_overrun : Driver
list_overrun =
    with_packet (λ s p store out sets.
    let a = packet_of s p store out sets in
    record { answer = a.answer; state = a.state; store = a.store; out = a.out; sets = put a.sets 2 (0 ∷ []) })

-- a filter of table_id 255 is opened, as one of all tables
abbrev pub barred_opened : Driver
barred_opened = with_open (λ s pid choice. open_of s pid (cond (sound_choice choice) choice All))

-- ---- what is told
-- a byte of another area stands in the output behind the sections
abbrev pub other_area_written : Driver
other_area_written = with_packet (λ s p store out sets. rewritten (λ a. put a.out (bytes_said a.answer) (take 1 (drop area_bytes store))) (packet_of s p store out sets))

-- a jump is told that the rule does not have
abbrev pub jump_invented : Driver
jump_invented = with_packet (λ s p store out sets. retold told_jump (packet_of s p store out sets))

-- section counts are invented
abbrev pub sections_invented : Driver
sections_invented = with_packet (λ s p store out sets. retold (told_sections 1) (packet_of s p store out sets))

-- the finished sections are told as those that were begun, so that one that is held is not counted
abbrev pub finished_told_as_begun : Driver
finished_told_as_begun = with_packet (λ s p store out sets. retold (told_begun (λ r. r.sections)) (packet_of s p store out sets))

-- the first section of a packet is gathered, and the bytes of the others are feigned
abbrev pub rest_feigned : Driver
rest_feigned =
    with_packet (λ s p store out sets.
    rewritten (λ a.
    let first = section_size a.out in
    put a.out first (replicate (bytes_said a.answer - first) 0)) (packet_of s p store out sets))

-- all packets are dropped: none is wanted
abbrev pub packets_dropped : Driver
packets_dropped = with_packet (λ s p store out sets. as_given s store out sets (given unwanted))

-- every open is refused
abbrev pub opens_refused : Driver
opens_refused = with_open (λ s pid choice. record { answer = refused 14; state = s })

-- every packet is refused
abbrev pub packets_refused : Driver
packets_refused = with_packet (λ s p store out sets. as_given s store out sets (refused 10))

-- a packet's first byte is left in another area of the store
abbrev pub other_area_spoilt : Driver
other_area_spoilt =
    with_packet (λ s p store out sets.
    let a = packet_of s p store out sets in
    record { answer = a.answer; state = a.state; store = put a.store area_bytes (take 1 p); out = a.out; sets = a.sets })

-- no area remembers that it has seen a repeat, so that a stuck counter never shows: document 01's rule before document 02's ticket 3
abbrev pub repeat_forgotten : Driver
repeat_forgotten =
    with_packet (λ s p store out sets.
    let a = packet_of s p store out sets in
    let forgets : Area → Area = λ (x : Area). record { pid = x.pid; users = x.users; marks = with_repeated x.marks 0 } in
    record { answer = a.answer; state = record { areas = map forgets a.state.areas; filters = a.state.filters; choices = a.state.choices; next = a.state.next }; store = a.store; out = a.out; sets = a.sets })

-- ---- who shares an area
-- an area is freed at the first close
abbrev pub freed_at_first_close : Driver
freed_at_first_close =
    with_close (λ s number.
    let a = close_of s number in
    record {
      answer = a.answer;
      state = record { areas = set a.state.areas (area_at s (place_of number s.filters)) free_area; filters = a.state.filters; choices = a.state.choices; next = a.state.next };
    })

-- user counts are invented
abbrev pub users_invented : Driver
users_invented =
    with_open (λ s pid choice.
    let a = open_of s pid choice in
    let more : Area → Area = λ (x : Area). record { pid = x.pid; users = x.users + 1; marks = x.marks } in
    record { answer = a.answer; state = record { areas = set a.state.areas 0 (more (get_or a.state.areas 0 free_area)); filters = a.state.filters; choices = a.state.choices; next = a.state.next } })

-- a number is given again after its close
abbrev pub number_given_again : Driver
number_given_again =
    with_close (λ s number.
    let a = close_of s number in
    record { answer = a.answer; state = record { areas = a.state.areas; filters = a.state.filters; choices = a.state.choices; next = number } })

abbrev pub wrong : List Driver
wrong =
    free_place_told
    ∷ closed_place_told
    ∷ choice_ignored
    ∷ first_set_for_all
    ∷ list_overrun
    ∷ barred_opened
    ∷ other_area_written
    ∷ jump_invented
    ∷ sections_invented
    ∷ finished_told_as_begun
    ∷ rest_feigned
    ∷ other_area_spoilt
    ∷ repeat_forgotten
    ∷ packets_dropped
    ∷ opens_refused
    ∷ packets_refused
    ∷ freed_at_first_close
    ∷ users_invented
    ∷ number_given_again
    ∷ []

-- the demand holds of none of them
abbrev pub Excluded : Type 0
Excluded = Every (λ (d : Driver). Statement d → ⊥) wrong
