-- Small runs, both sides of the demand: antt computes each.
-- Assumes nothing.
use mathlib.Core.Path.{◌≡◌, refl}
use mathlib.Core.Bool.{Bool, true, false}
use mathlib.Core.List.{List, [], ◌∷◌, ◌++◌}
use Prim.Native.Nat.{ℕ}
use lib.ListN.{take, replicate}
use Rattle.std.specs.Prelude.{Some, None}
use Rattle.ground.specs.Answer.{Answer, refused, given}
use Rattle.ground.specs.Write.{put}
use Rattle.gather.specs.Rule.{rule, walk, add, started, begun_in}
use Rattle.gather.specs.Kind.{classify, kind_of}
use Rattle.open_call.specs.Open.{open_of}
use Rattle.close_call.specs.Close.{close_of}
use Rattle.packet_call.specs.Packet.{Said, packet_of}
use Rattle.sound.specs.Sound.{sound}
use Rattle.state.specs.Choice.{through}
use Rattle.state.specs.declared.Choice.TheVariants.{All, One}
use Rattle.runs.specs.Run.{Buffers, Call, open_call, close_call, packet_call, World, Event, open_event, close_event, packet_event, start, event, run_from, log_from, ours}
use Rattle.runs.specs.Answers.{places_after, open_answer, close_answer}
use Rattle.runs.specs.History.{OpenedFilter, AcceptedCall, opened, closed, accepted, standing, areas_taken, up_to_close, handed, packets, since, remembered, completed}
use Rattle.runs.specs.AsNew.{without}

-- a number is given, closed, refused 16 and never given again
pub closed_for_good :
    log_from ours (start []) (open_call 0 All ∷ close_call 1 ∷ close_call 1 ∷ open_call 0 All ∷ [])
    ≡ open_event 0 All (given (record { number = 2; place = 0 }))
    ∷ close_event 1 (refused 16)
    ∷ close_event 1 (given tt)
    ∷ open_event 0 All (given (record { number = 1; place = 0 }))
    ∷ []
unfolding open_of close_of sound
closed_for_good = refl

-- ---- what is handed
abbrev after : List Call → List AcceptedCall
after calls = accepted (log_from ours (start (replicate 32768 0)) calls)

-- after the calls a filter was handed these sections, and these are what it lets through of what the rule completes
abbrev Handed : OpenedFilter → List Call → List (List ℕ) → Type 0
Handed f calls sections = (handed f (after calls) ≡ sections) × (through f.choice (completed (since f (after calls)) (packets f.pid (after calls))) ≡ sections)

abbrev pub zeros : Buffers
zeros = record { out = replicate 4278 0; sets = replicate 61 0 }

abbrev pub lend : List ℕ → Call
lend p = packet_call p zeros

-- the first packet of document 01's listing: a section of four bytes on PID 0
abbrev listed : List ℕ
listed = 0x47 ∷ 0x40 ∷ 0x00 ∷ 0x10 ∷ 0x00 ∷ 0x80 ∷ 0x30 ∷ 0x01 ∷ 0xAA ∷ replicate 179 0xFF

-- two packets of PID 0 that share a section of 303 bytes
abbrev pub front : List ℕ
front = 0x47 ∷ 0x40 ∷ 0x00 ∷ 0x10 ∷ 0x00 ∷ 0x80 ∷ 0xB1 ∷ 0x2C ∷ replicate 180 0x2A

abbrev pub back : List ℕ
back = 0x47 ∷ 0x00 ∷ 0x00 ∷ 0x11 ∷ replicate 120 0x2A ++ replicate 64 0xFF

-- a filter is handed a section
pub whole_section : Handed (record { number = 1; pid = 0; choice = All; place = 0 }) (lend listed ∷ open_call 0 All ∷ []) ((0x80 ∷ 0x30 ∷ 0x01 ∷ 0xAA ∷ []) ∷ [])
unfolding open_of close_of packet_of sound put rule walk add started classify kind_of remembered completed
whole_section = (refl, refl)

-- a filter that comes to a place after another is handed nothing of what that one was handed
pub before_its_open : Handed (record { number = 2; pid = 0; choice = All; place = 0 }) (open_call 0 All ∷ close_call 1 ∷ lend listed ∷ open_call 0 All ∷ []) []
unfolding open_of close_of packet_of sound put rule walk add started classify kind_of remembered completed
before_its_open = (refl, refl)

-- a second filter that is opened in the midst of a section is handed it too
pub shared_section :
    Handed (record { number = 2; pid = 0; choice = All; place = 1 }) (lend back ∷ open_call 0 All ∷ lend front ∷ open_call 0 All ∷ []) ((0x80 ∷ 0xB1 ∷ 0x2C ∷ replicate 300 0x2A) ∷ [])
unfolding open_of close_of packet_of sound put rule walk add started classify kind_of remembered completed
shared_section = (refl, refl)

-- the last close forgets what was held
pub forgotten_section : Handed (record { number = 2; pid = 0; choice = All; place = 0 }) (lend back ∷ open_call 0 All ∷ close_call 1 ∷ lend front ∷ open_call 0 All ∷ []) []
unfolding open_of close_of packet_of sound put rule walk add started classify kind_of remembered completed
forgotten_section = (refl, refl)

-- ---- after a jump
-- what a packet call says, and so many bytes of the output after it
abbrev said_after : Event → Answer Said × List ℕ
said_after (open_event pid choice a) = (refused 0, [])
said_after (close_event number a) = (refused 0, [])
said_after (packet_event p lent a out) = (a, take 4 out.out)

abbrev says : ℕ → ℕ → Bool → ℕ → ℕ → Said
says sections bytes jump given_up begun = record { wanted = true; sections = sections; bytes = bytes; jump = jump; repeat = false; given_up = given_up; begun = begun }

abbrev at : List Call → World
at calls = run_from ours (start (replicate 32768 0)) calls

-- a packet of PID 0 whose counter jumps after that of `front`: a section of three bytes
abbrev pub jumping : List ℕ
jumping = 0x47 ∷ 0x40 ∷ 0x00 ∷ 0x13 ∷ 0x00 ∷ 0x81 ∷ 0x30 ∷ 0x00 ∷ replicate 180 0xFF

-- after `front` it gives up what is held; where `front` did not come all else is the same
pub jump_told :
    (said_after (event ours (at (lend front ∷ open_call 0 All ∷ [])) (lend jumping)) ≡ (given (says 1 3 true 1 1), 0x81 ∷ 0x30 ∷ 0x00 ∷ 0x00 ∷ []))
    × (said_after (event ours (at (without 0 (lend front ∷ open_call 0 All ∷ []))) (lend jumping)) ≡ (given (says 1 3 false 0 1), 0x81 ∷ 0x30 ∷ 0x00 ∷ 0x00 ∷ []))
unfolding open_of close_of packet_of sound put rule walk add started begun_in classify kind_of
jump_told = (refl, refl)

-- a packet in step finishes what is held; where `front` did not come it gives nothing
pub step_told :
    (said_after (event ours (at (lend front ∷ open_call 0 All ∷ [])) (lend back)) ≡ (given (says 1 303 false 0 0), 0x80 ∷ 0xB1 ∷ 0x2C ∷ 0x2A ∷ []))
    × (said_after (event ours (at (without 0 (lend front ∷ open_call 0 All ∷ []))) (lend back)) ≡ (given (says 0 0 false 0 0), 0 ∷ 0 ∷ 0 ∷ 0 ∷ []))
unfolding open_of close_of packet_of sound put rule walk add started begun_in classify kind_of
step_told = (refl, refl)

-- of `front` three times the third jumps, and what follows is what follows it once
pub thrice :
    (said_after (event ours (at (lend front ∷ lend front ∷ open_call 0 All ∷ [])) (lend front)) ≡ (given (says 0 0 true 1 1), 0 ∷ 0 ∷ 0 ∷ 0 ∷ []))
    × (said_after (event ours (at (lend front ∷ lend front ∷ lend front ∷ open_call 0 All ∷ [])) (lend back)) ≡ (given (says 1 303 false 0 0), 0x80 ∷ 0xB1 ∷ 0x2C ∷ 0x2A ∷ []))
unfolding open_of close_of packet_of sound put rule walk add started begun_in classify kind_of
thrice = (refl, refl)

-- what is handed from the jump on is the same to a filter that stays and to one that is closed before it and opened again
pub handed_again :
    Handed (record { number = 1; pid = 0; choice = All; place = 0 }) (lend jumping ∷ lend front ∷ open_call 0 All ∷ []) ((0x81 ∷ 0x30 ∷ 0x00 ∷ []) ∷ [])
    × Handed (record { number = 2; pid = 0; choice = All; place = 0 }) (lend jumping ∷ open_call 0 All ∷ close_call 1 ∷ lend front ∷ open_call 0 All ∷ []) ((0x81 ∷ 0x30 ∷ 0x00 ∷ []) ∷ [])
unfolding open_of close_of packet_of sound put rule walk add started classify kind_of remembered completed
handed_again = ((refl, refl), (refl, refl))

-- ---- one table only
-- three filters on PID 18, of all tables, of table_id 78 and of table_id 80
abbrev guides : List Call
guides = open_call 18 (One 80) ∷ open_call 18 (One 78) ∷ open_call 18 All ∷ []

-- sections of table_id 78, 66, 80 and 78
abbrev guide : List ℕ
guide =
    0x47 ∷ 0x40 ∷ 0x12 ∷ 0x10 ∷ 0x00 ∷ 0x4E ∷ 0x30 ∷ 0x00 ∷ 0x42 ∷ 0x30 ∷ 0x01 ∷ 0xAA ∷ 0x50 ∷ 0x30 ∷ 0x00 ∷ 0x4E ∷ 0x30 ∷ 0x02 ∷ 0xBB ∷ 0xCC ∷ replicate 168 0xFF

-- the list after a call
abbrev list_after : Event → List ℕ
list_after (open_event pid choice a) = []
list_after (close_event number a) = []
list_after (packet_event p lent a out) = out.sets

pub four_sets : list_after (event ours (run_from ours (start (replicate 32768 0)) guides) (lend guide)) ≡ 3 ∷ 1 ∷ 5 ∷ 3 ∷ replicate 57 0
unfolding open_of close_of packet_of sound put rule walk add started classify kind_of remembered completed
four_sets = refl

-- each is handed what it let through
pub all_of_them :
    Handed (record { number = 1; pid = 18; choice = All; place = 0 }) (lend guide ∷ guides)
    ((0x4E ∷ 0x30 ∷ 0x00 ∷ []) ∷ (0x42 ∷ 0x30 ∷ 0x01 ∷ 0xAA ∷ []) ∷ (0x50 ∷ 0x30 ∷ 0x00 ∷ []) ∷ (0x4E ∷ 0x30 ∷ 0x02 ∷ 0xBB ∷ 0xCC ∷ []) ∷ [])
unfolding open_of close_of packet_of sound put rule walk add started classify kind_of remembered completed
all_of_them = (refl, refl)

pub one_of_two : Handed (record { number = 2; pid = 18; choice = One 78; place = 1 }) (lend guide ∷ guides) ((0x4E ∷ 0x30 ∷ 0x00 ∷ []) ∷ (0x4E ∷ 0x30 ∷ 0x02 ∷ 0xBB ∷ 0xCC ∷ []) ∷ [])
unfolding open_of close_of packet_of sound put rule walk add started classify kind_of remembered completed
one_of_two = (refl, refl)

-- once the first filter is closed nobody lets table_id 66 through
abbrev later : List ℕ
later = 0x47 ∷ 0x40 ∷ 0x12 ∷ 0x11 ∷ 0x00 ∷ 0x42 ∷ 0x30 ∷ 0x00 ∷ 0x50 ∷ 0x30 ∷ 0x00 ∷ replicate 177 0xFF

pub nobody : take 3 (list_after (event ours (run_from ours (start (replicate 32768 0)) (close_call 1 ∷ lend guide ∷ guides)) (packet_call later (record { out = replicate 4278 0; sets = replicate 61 9 })))) ≡ 0 ∷ 4 ∷ 9 ∷ []
unfolding open_of close_of packet_of sound put rule walk add started classify kind_of remembered completed
nobody = refl

-- table_id 255 is refused 17, after 12 and before 13
pub barred : (open_answer [] 18 (One 255) ≡ refused 17) × (open_answer [] 0x1FFF (One 255) ≡ refused 12) × (open_answer [] 18 (One 254) ≡ given (record { number = 1; place = 0 }))
barred = (refl, refl, refl)

-- ---- what a history says
-- two filters on PID 0; the second is closed, and a filter on PID 5 comes to its place
abbrev earlier : List AcceptedCall
earlier = opened (record { number = 2; pid = 0; choice = All; place = 1 }) ∷ opened (record { number = 1; pid = 0; choice = All; place = 0 }) ∷ []

abbrev reused : List AcceptedCall
reused = opened (record { number = 3; pid = 5; choice = All; place = 1 }) ∷ closed 2 ∷ earlier

pub who_stands : take 3 (standing reused) ≡ Some (record { number = 1; pid = 0; choice = All; place = 0 }) ∷ Some (record { number = 3; pid = 5; choice = All; place = 1 }) ∷ None ∷ []
who_stands = refl

pub whose_set : (places_after reused 0 78 ≡ 1) × (places_after reused 5 78 ≡ 2) × (places_after reused 7 78 ≡ 0)
whose_set = (refl, refl, refl)

pub up_to_close_lem : (up_to_close 2 reused ≡ earlier) × (up_to_close 3 reused ≡ reused)
up_to_close_lem = (refl, refl)

pub opens_answered :
    (open_answer reused 0 All ≡ given (record { number = 4; place = 2 })) × (open_answer reused 0x1FFF All ≡ refused 12) × (open_answer (opened (record { number = 65535; pid = 5; choice = All; place = 2 }) ∷ reused) 5 All ≡ given (record { number = 5; place = 3 }))
opens_answered = (refl, refl, refl)

pub closes_answered : (close_answer reused 3 ≡ given tt) × (close_answer reused 2 ≡ refused 16) × (close_answer reused 9 ≡ refused 16)
closes_answered = (refl, refl, refl)

-- the last close on a PID frees its area
pub areas_counted : (areas_taken earlier ≡ 1) × (areas_taken reused ≡ 2) × (areas_taken (closed 1 ∷ reused) ≡ 1) × (areas_taken (closed 3 ∷ closed 1 ∷ reused) ≡ 0)
areas_counted = (refl, refl, refl, refl)

-- eight PIDs, each with a filter
abbrev eight : List AcceptedCall
eight =
    opened (record { number = 8; pid = 7; choice = All; place = 7 })
    ∷ opened (record { number = 7; pid = 6; choice = All; place = 6 })
    ∷ opened (record { number = 6; pid = 5; choice = All; place = 5 })
    ∷ opened (record { number = 5; pid = 4; choice = All; place = 4 })
    ∷ opened (record { number = 4; pid = 3; choice = All; place = 3 })
    ∷ opened (record { number = 3; pid = 2; choice = All; place = 2 })
    ∷ opened (record { number = 2; pid = 1; choice = All; place = 1 })
    ∷ opened (record { number = 1; pid = 0; choice = All; place = 0 })
    ∷ []

pub ninth_answered : (open_answer eight 8 All ≡ refused 15) × (open_answer eight 3 All ≡ given (record { number = 9; place = 8 })) × (open_answer (closed 3 ∷ eight) 8 All ≡ given (record { number = 9; place = 2 }))
ninth_answered = (refl, refl, refl)
