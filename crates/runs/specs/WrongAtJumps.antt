-- Request 14 of document 02, "After a jump, as good as new": drivers that are wrong at jumps, each of which the statement excludes.
use Rattle.std.specs.Prelude.{Bool, true, false, cond, ◌&&◌, ◌||◌, List, [], ◌∷◌, map, ℕ, ◌+◌, ◌%◌, eqb, get_or}
use Rattle.ground.specs.Answer.{Answer, refused, given}
use Rattle.ground.specs.Walk.{Every}
use Rattle.packet.specs.Packet.{contents}
use Rattle.gather.specs.Memory.{no_marks, held_of, marks_as}
use Rattle.state.specs.State.{has_pid, area_of, free_area}
use Rattle.state.specs.declared.Area.{Area}
use Rattle.state.specs.declared.State.{State}
use Rattle.packet_call.specs.Packet.{Said, AfterPacket, pid_of, packet_of}
use Rattle.runs.specs.Run.{Driver, Buffers, packet_event}
use Rattle.runs.specs.History.{is_accepted}
use Rattle.runs.specs.Wrong.{with_packet, told_as, retold, told_jump}
use Rattle.runs.specs.AsNew.{AsNew}

-- a driver that does something else where ours reports a jump
abbrev pub is_jump : Answer Said → Bool
is_jump (refused n) = false
is_jump (given r) = r.jump

abbrev pub where_it_jumps : (State → List ℕ → List ℕ → List ℕ → List ℕ → AfterPacket) → Driver
where_it_jumps other =
    with_packet (λ s p store out sets.
    let a = packet_of s p store out sets in
    cond (is_jump a.answer) (other s p store out sets) a)

-- the jump is not told
abbrev pub told_no_jump : Said → Said
told_no_jump r =
    record { wanted = r.wanted; sections = r.sections; bytes = r.bytes; jump = false; repeat = r.repeat; given_up = r.given_up; begun = r.begun }

abbrev pub jump_hidden : Driver
jump_hidden = with_packet (λ s p store out sets. retold told_no_jump (packet_of s p store out sets))

-- a packet sets its area's counter, and nothing more is done with it
abbrev pub told_counter_only : Said → Said
told_counter_only r = record { wanted = true; sections = 0; bytes = 0; jump = r.jump; repeat = r.repeat; given_up = r.given_up; begun = 0 }

abbrev pub counter_only : List ℕ → List ℕ → List ℕ → List ℕ → AfterPacket → AfterPacket
counter_only p store out sets a =
    let empty : Area → Area = λ (x : Area). cond (has_pid (pid_of p) x) (record { pid = x.pid; users = x.users; marks = marks_as 0 1 (contents p).counter 0 }) x in
    record { answer = told_as told_counter_only a.answer; state = record { areas = map empty a.state.areas; filters = a.state.filters; choices = a.state.choices; next = a.state.next }; store = store; out = out; sets = sets }

-- the payload of the packet that jumps is dropped
abbrev pub jump_dropped : Driver
jump_dropped = where_it_jumps (λ s p store out sets. counter_only p store out sets (packet_of s p store out sets))

-- the held bytes are kept: the packet is told as a jump and taken as if it were in step
abbrev pub held_bytes_kept : Driver
held_bytes_kept =
    where_it_jumps (λ s p store out sets.
    let stepped : Area → Area = λ (a : Area). cond (has_pid (pid_of p) a) (record { pid = a.pid; users = a.users; marks = marks_as (held_of a.marks) 1 (((contents p).counter + 15) % 16) 0 }) a in
    retold told_jump (packet_of (record { areas = map stepped s.areas; filters = s.filters; choices = s.choices; next = s.next }) p store out sets))

-- a jump forgets what every area has seen, also those of other PIDs
abbrev pub all_forgotten : Driver
all_forgotten =
    where_it_jumps (λ s p store out sets.
    let a = packet_of s p store out sets in
    let forgets : Area → Area = λ (x : Area). record { pid = x.pid; users = x.users; marks = no_marks } in
    record { answer = a.answer; state = record { areas = map forgets a.state.areas; filters = a.state.filters; choices = a.state.choices; next = a.state.next }; store = a.store; out = a.out; sets = a.sets })

-- the first packet of every area is dropped, and so is one that jumps, which as on a fresh area is the same
abbrev pub first_dropped : Driver
first_dropped =
    with_packet (λ s p store out sets.
    let a = packet_of s p store out sets in
    let is_first : Bool = eqb (get_or s.areas (area_of (pid_of p) s.areas) free_area).marks.seen 0 in
    let lent : Buffers = record { out = out; sets = sets } in
    cond (is_accepted (packet_event p lent a.answer lent) && (is_first || is_jump a.answer)) (counter_only p store out sets a) a)

-- what is claimed holds of none of them
abbrev pub ExcludedAtJumps : Type 0
ExcludedAtJumps = Every (λ (d : Driver). AsNew d → ⊥) (jump_hidden ∷ jump_dropped ∷ first_dropped ∷ held_bytes_kept ∷ all_forgotten ∷ [])
