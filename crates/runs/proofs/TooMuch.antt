-- What would be too much to claim: a run of two packets breaks each of the two statements.
-- Assumes nothing.
use mathlib.Core.Path.{◌≡◌, refl, ap}
use mathlib.Core.List.{List, [], ◌∷◌}
use Prim.Native.Nat.{ℕ, ◌+◌}
use native.Mathlib.Omega.{arith}
use lib.ListN.{length, replicate, length-replicate}
use Rattle.ground.specs.Answer.{refused, given}
use Rattle.ground.specs.Write.{put}
use Rattle.gather.specs.Rule.{rule, walk, add, started, begun_in, unfinished_of}
use Rattle.gather.specs.Kind.{classify, kind_of}
use Rattle.state.specs.declared.Choice.TheVariants.{All}
use Rattle.open_call.specs.Open.{open_of}
use Rattle.packet_call.specs.Packet.{Said, unwanted, packet_of}
use Rattle.sound.specs.Sound.{sound}
use Rattle.runs.specs.Run.{Call, open_call, Event, open_event, close_event, packet_event, run_from, ours}
use Rattle.runs.specs.AsNew.{AsNewAfter}
use Rattle.runs.proofs.Examples.{zeros, lend, front, back, jumping}

abbrev pub store : List ℕ
store = replicate 32768 0

pub whole : ◌≡◌ {A = ℕ} (length store) 32768
whole = length-replicate {A = ℕ} 32768 0

-- 183 bytes of a section are held
abbrev pub earlier : List Call
earlier = lend front ∷ open_call 0 All ∷ []

-- what an answer says
abbrev pub said_in : Event → Said
said_in (open_event pid choice a) = unwanted
said_in (close_event number a) = unwanted
said_in (packet_event p lent (refused n) left) = unwanted
said_in (packet_event p lent (given r) left) = r

-- a jump gives up the held section, and where none is held there is none to give up
pub given_up_needed : AsNewAfter ours (run_from ours) (λ r. r.jump) (λ held. 0) → ⊥
unfolding open_of packet_of sound put rule walk add started begun_in classify kind_of
given_up_needed claim =
    let k = claim store store whole whole earlier jumping zeros _ _ refl refl in
    let none : ◌≡◌ {A = ℕ} 0 k.told.given_up = ap (λ (e : Event). (said_in e).given_up) k.answer in
    let one : ◌≡◌ {A = ℕ} 1 (0 + k.told.given_up) = ap (λ (r : Said). r.given_up) k.same in
    omega arith

-- a packet in step finishes the held section, and where none is held it finishes none
pub jump_needed : AsNewAfter ours (run_from ours) (λ r. r.wanted) unfinished_of → ⊥
unfolding open_of packet_of sound put rule walk add started begun_in classify kind_of
jump_needed claim =
    let k = claim store store whole whole earlier back zeros _ _ refl refl in
    let none : ◌≡◌ {A = ℕ} 0 k.told.sections = ap (λ (e : Event). (said_in e).sections) k.answer in
    let one : ◌≡◌ {A = ℕ} 1 k.told.sections = ap (λ (r : Said). r.sections) k.same in
    omega arith
