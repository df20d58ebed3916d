-- The ★ cases about areas and pointers hold: antt computes each, and a refused packet leaves store and output alone whatever they hold.
-- Assumes nothing.
use mathlib.Core.Path.{◌≡◌, refl}
use mathlib.Core.Bool.{true, false}
use mathlib.Core.List.{List, [], ◌∷◌}
use Prim.Native.Nat.{ℕ, ◌≤◌}
use lib.Dec.{leb, eqb}
use lib.ListN.{length, get_or, length-append}
use native.Mathlib.Omega.{arith}
use borrow.Author.Tests.{eq-eqb, le-ltb, le-leb, lt-leb, ltb-true, not-true}
use Rattle.ground.specs.Walk.{all, Every}
use Rattle.ground.proofs.Walk.{find_none, all_at}
use Rattle.ground.proofs.Write.{put_nil}
use Rattle.gather.proofs.Stars as gathering
use Rattle.state.specs.State.{is_used, area_of, free_place_of, free_area}
use Rattle.state.specs.declared.Area.{Area}
use Rattle.sound.specs.Sound.{sound}
use Rattle.open_call.specs.Open.{has_area, area_for, open_of}
use Rattle.packet_call.specs.Packet.{packet_of, is_wrong_size}
use Rattle.driver.specs.Stars.{Right, cases, eight_taken, last_byte_held}

-- the sizes are right
sizes : (store out sets : List ℕ) → length store ≡ 32768 → 4278 ≤ length out → 61 ≤ length sets → is_wrong_size store out sets ≡ false
sizes store out sets l o m = rw (eq-eqb (length store) 32768 l, le-ltb (length out) 4278 o, le-ltb (length sets) 61 m)

-- where all areas are taken an open finds none for a PID that has none
none_free : (pid : ℕ) (areas : List Area) → all is_used areas ≡ true → has_area pid areas ≡ false → leb (length areas) (area_for pid areas) ≡ true
none_free pid areas used none =
    let full = find_none (λ (a : Area). eqb a.users 0) areas free_area (λ i b. not-true (eqb (get_or areas i free_area).users 0) (all_at is_used areas free_area used i b)) in
    rw (none, full) (le-leb (length areas) (length areas) (omega arith))

own_found : (pid : ℕ) (areas : List Area) → has_area pid areas ≡ true → leb (length areas) (area_for pid areas) ≡ false
own_found pid areas held = rw held (lt-leb (length areas) (area_of pid areas) (ltb-true (area_of pid areas) (length areas) held))

eight_taken_lem : Right eight_taken
unfolding open_of
eight_taken_lem s pid choice fine used low chosen more place = (
  λ none. rw (fine, le-ltb 0x1FFE pid low, chosen, le-ltb 65535 s.next more, lt-leb (length s.filters) (free_place_of s.filters) place, none_free pid s.areas used none),
  λ held. rw (fine, le-ltb 0x1FFE pid low, chosen, le-ltb 65535 s.next more, lt-leb (length s.filters) (free_place_of s.filters) place, own_found pid s.areas held),
)

last_byte : Right last_byte_held
unfolding sound open_of packet_of
last_byte bytes store out sets e l o m =
    let held = (gathering.stars).1.1.0 0 bytes e in
    rw (sizes store out sets l o m, length-append bytes (0x80 ∷ []), e, held.1, put_nil out 0, put_nil sets 0)

pub stars : Every Right cases
unfolding sound open_of packet_of
stars = (refl, (refl, (eight_taken_lem, (λ store out sets l o m. rw (sizes store out sets l o m), (λ store out sets l o m. rw (sizes store out sets l o m), (last_byte, tt))))))
