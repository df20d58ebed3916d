-- Of each wrong driver a short run breaks a sentence of the demand: antt computes both sides.
-- Assumes nothing.
use mathlib.Core.Path.{◌≡◌, refl, sym, ap}
use mathlib.Core.Bool.{false≢true}
use mathlib.Core.List.{List, [], ◌∷◌, ◌++◌}
use Prim.Native.Nat.{ℕ}
use native.Mathlib.Omega.{arith}
use lib.Dec.{lit<}
use lib.ListN.{get_or, replicate, length-replicate}
use Rattle.ground.specs.Write.{put}
use Rattle.gather.specs.Rule.{rule, walk, add, started, begun_in}
use Rattle.gather.specs.Kind.{classify, kind_of}
use Rattle.state.specs.declared.Choice.TheVariants.{All, One}
use Rattle.open_call.specs.Open.{open_of}
use Rattle.close_call.specs.Close.{close_of}
use Rattle.packet_call.specs.Packet.{Said, packet_of}
use Rattle.sound.specs.Sound.{sound}
use Rattle.runs.specs.Run.{Driver, Buffers, Call, open_call, close_call, packet_call}
use Rattle.runs.specs.History.{is_accepted, remembered}
use Rattle.runs.specs.Demand.{DemandThree, Statement}
use Rattle.runs.specs.Wrong.{free_place_told, closed_place_told, choice_ignored, first_set_for_all, list_overrun, barred_opened, other_area_written, jump_invented, sections_invented, finished_told_as_begun, rest_feigned, other_area_spoilt, repeat_forgotten, packets_dropped, opens_refused, packets_refused, freed_at_first_close, users_invented, number_given_again, Excluded}

-- a store that is not all zero
abbrev full : List ℕ
full = replicate 32768 0xAA

abbrev lent : Buffers
lent = record { out = replicate 4278 0; sets = replicate 61 7 }

demanded : (d : Driver) → Statement d → (calls : List Call) → DemandThree d full calls
demanded d s calls = s full calls (length-replicate {A = ℕ} 32768 0xAA)

-- a packet of PID 0 with two sections of four bytes
abbrev two : List ℕ
two = 0x47 ∷ 0x40 ∷ 0x00 ∷ 0x10 ∷ 0x00 ∷ 0x80 ∷ 0x30 ∷ 0x01 ∷ 0xAA ∷ 0x81 ∷ 0x30 ∷ 0x01 ∷ 0xBB ∷ replicate 175 0xFF

free_place_told_lem : Statement free_place_told → ⊥
unfolding open_of close_of packet_of sound put rule walk add started classify kind_of remembered
free_place_told_lem s = false≢true (sym (((demanded free_place_told s (open_call 0 All ∷ [])).set two lent _ _ refl refl).0 0 (lit< tt) 1))

-- the second of two filters is closed, and its place is told
closed_place_told_lem : Statement closed_place_told → ⊥
unfolding open_of close_of packet_of sound put rule walk add started classify kind_of remembered
closed_place_told_lem s = false≢true (sym (((demanded closed_place_told s (close_call 2 ∷ open_call 0 All ∷ open_call 0 All ∷ [])).set two lent _ _ refl refl).0 0 (lit< tt) 1))

-- a filter of table_id 0x81 is told of the section of 0x80
choice_ignored_lem : Statement choice_ignored → ⊥
unfolding open_of close_of packet_of sound put rule walk add started classify kind_of remembered
choice_ignored_lem s = false≢true (sym (((demanded choice_ignored s (open_call 0 (One 0x81) ∷ [])).set two lent _ _ refl refl).0 0 (lit< tt) 0))

-- a filter of table_id 0x81 is not told of its own section, which is the second
first_set_for_all_lem : Statement first_set_for_all → ⊥
unfolding open_of close_of packet_of sound put rule walk add started classify kind_of remembered
first_set_for_all_lem s = false≢true (((demanded first_set_for_all s (open_call 0 (One 0x81) ∷ [])).set two lent _ _ refl refl).0 1 (lit< tt) 0)

-- behind the sets of two sections stands what was not lent
list_overrun_lem : Statement list_overrun → ⊥
unfolding open_of close_of packet_of sound put rule walk add started classify kind_of remembered
list_overrun_lem s =
    let set : ◌≡◌ {A = ℕ} 0 7 = ap (λ (l : List ℕ). get_or l 0 0) ((demanded list_overrun s (open_call 0 All ∷ [])).set two lent _ _ refl refl).1.same in
    omega arith

barred_opened_lem : Statement barred_opened → ⊥
unfolding open_of sound
barred_opened_lem s = false≢true (sym (ap is_accepted ((demanded barred_opened s []).answers (open_call 0 (One 255)))))

-- behind the eight bytes of the sections stands a byte that was not lent
other_area_written_lem : Statement other_area_written → ⊥
unfolding open_of close_of packet_of sound put rule walk add started classify kind_of remembered
other_area_written_lem s =
    let byte : ◌≡◌ {A = ℕ} 0xAA 0 = ap (λ (out : List ℕ). get_or out 8 0) ((demanded other_area_written s (open_call 0 All ∷ [])).whole two lent _ _ refl refl).1 in
    omega arith

-- an area's first packet is told as a jump
jump_invented_lem : Statement jump_invented → ⊥
unfolding open_of close_of packet_of sound put rule walk add started classify kind_of remembered
jump_invented_lem s = false≢true (sym (ap (λ (r : Said). r.jump) ((demanded jump_invented s (open_call 0 All ∷ [])).whole two lent _ _ refl refl).0))

-- one section is told of a packet with two
sections_invented_lem : Statement sections_invented → ⊥
unfolding open_of close_of packet_of sound put rule walk add started classify kind_of remembered
sections_invented_lem s =
    let count : ◌≡◌ {A = ℕ} 1 2 = ap (λ (r : Said). r.sections) ((demanded sections_invented s (open_call 0 All ∷ [])).whole two lent _ _ refl refl).0 in
    omega arith

-- a packet of PID 0 whose last byte is taken as a table_id
abbrev last_byte : List ℕ
last_byte = 0x47 ∷ 0x40 ∷ 0x00 ∷ 0x10 ∷ 0xB6 ∷ replicate 182 0xFF ++ 0x80 ∷ []

-- a section is begun, and none is finished
finished_told_as_begun_lem : Statement finished_told_as_begun → ⊥
unfolding open_of close_of packet_of sound put rule walk add started begun_in classify kind_of remembered
finished_told_as_begun_lem s =
    let count : ◌≡◌ {A = ℕ} 0 1 = ap (λ (r : Said). r.begun) ((demanded finished_told_as_begun s (open_call 0 All ∷ [])).whole last_byte lent _ _ refl refl).0 in
    omega arith

-- the second section's table_id is missing
rest_feigned_lem : Statement rest_feigned → ⊥
unfolding open_of close_of packet_of sound put rule walk add started classify kind_of remembered
rest_feigned_lem s =
    let byte : ◌≡◌ {A = ℕ} 0 0x81 = ap (λ (out : List ℕ). get_or out 4 0) ((demanded rest_feigned s (open_call 0 All ∷ [])).whole two lent _ _ refl refl).1 in
    omega arith

-- where no area is taken a byte has changed
other_area_spoilt_lem : Statement other_area_spoilt → ⊥
unfolding open_of close_of packet_of sound put rule walk add started classify kind_of remembered
other_area_spoilt_lem s =
    let byte : ◌≡◌ {A = ℕ} 0x47 0xAA = ap (λ (store : List ℕ). get_or store 4096 0) ((demanded other_area_spoilt s (open_call 0 All ∷ [])).writes two lent refl) in
    omega arith

-- the third packet with one counter is told as a repeat again
repeat_forgotten_lem : Statement repeat_forgotten → ⊥
unfolding open_of close_of packet_of sound put rule walk add started classify kind_of remembered
repeat_forgotten_lem s = false≢true (ap (λ (r : Said). r.jump) ((demanded repeat_forgotten s (packet_call two lent ∷ packet_call two lent ∷ open_call 0 All ∷ [])).whole two lent _ _ refl refl).0)

packets_dropped_lem : Statement packets_dropped → ⊥
unfolding open_of close_of packet_of sound put rule walk add started classify kind_of remembered
packets_dropped_lem s = false≢true (ap is_accepted ((demanded packets_dropped s (open_call 0 All ∷ [])).answers (packet_call two lent)))

opens_refused_lem : Statement opens_refused → ⊥
opens_refused_lem s = false≢true (ap is_accepted ((demanded opens_refused s []).answers (open_call 0 All)))

packets_refused_lem : Statement packets_refused → ⊥
unfolding open_of close_of packet_of sound put rule walk add started classify kind_of remembered
packets_refused_lem s = false≢true (ap is_accepted ((demanded packets_refused s (open_call 0 All ∷ [])).answers (packet_call two lent)))

-- one of two filters is closed, and the other has no area any more
freed_at_first_close_lem : Statement freed_at_first_close → ⊥
unfolding open_of close_of sound
freed_at_first_close_lem s = false≢true ((demanded freed_at_first_close s (close_call 1 ∷ open_call 0 All ∷ open_call 0 All ∷ [])).area 0)

users_invented_lem : Statement users_invented → ⊥
unfolding open_of sound
users_invented_lem s =
    let count : ◌≡◌ {A = ℕ} 2 1 = (demanded users_invented s (open_call 0 All ∷ [])).users 0 (lit< tt) refl in
    omega arith

number_given_again_lem : Statement number_given_again → ⊥
unfolding open_of close_of sound
number_given_again_lem s = (demanded number_given_again s (close_call 1 ∷ open_call 0 All ∷ [])).never 1 0 All (record { number = 1; place = 0 }) refl refl refl

pub excluded : Excluded
excluded = (free_place_told_lem, (closed_place_told_lem, (choice_ignored_lem, (first_set_for_all_lem, (list_overrun_lem, (barred_opened_lem, (other_area_written_lem, (jump_invented_lem, (sections_invented_lem, (finished_told_as_begun_lem, (rest_feigned_lem, (other_area_spoilt_lem, (repeat_forgotten_lem, (packets_dropped_lem, (opens_refused_lem, (packets_refused_lem, (freed_at_first_close_lem, (users_invented_lem, (number_given_again_lem, tt)))))))))))))))))))
