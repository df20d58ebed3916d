-- Of each driver that is wrong at jumps a short run breaks what is claimed: antt computes both sides. One that tells no jump would meet it of no run, and so would meet too much.
-- Assumes nothing.
use mathlib.Core.Path.{◌≡◌, refl, ◌∙◌, ap}
use mathlib.Core.Bool.{true, false≢true}
use mathlib.Core.List.{List, [], ◌∷◌, ◌++◌}
use Prim.Native.Nat.{ℕ}
use native.Mathlib.Omega.{arith}
use lib.ListN.{length, replicate}
use Rattle.ground.specs.Answer.{given}
use Rattle.ground.specs.Write.{put}
use Rattle.gather.specs.Rule.{rule, walk, add, started, begun_in}
use Rattle.gather.specs.Kind.{classify, kind_of}
use Rattle.state.specs.declared.Choice.TheVariants.{All}
use Rattle.open_call.specs.Open.{open_of}
use Rattle.packet_call.specs.Packet.{Said, unwanted, packet_of}
use Rattle.sound.specs.Sound.{sound}
use Rattle.driver.proofs.Cases.{packet_ind}
use Rattle.runs.specs.Run.{Buffers, open_call, packet_call, World, Event, packet_event, event, run_from}
use Rattle.runs.specs.Wrong.{told_as}
use Rattle.runs.specs.AsNew.{AsNew}
use Rattle.runs.specs.WrongAtJumps.{told_no_jump, jump_hidden, jump_dropped, first_dropped, held_bytes_kept, all_forgotten, ExcludedAtJumps}
use Rattle.runs.proofs.Examples.{zeros, lend, front, back, jumping}
use Rattle.runs.proofs.TooMuch.{store, whole, earlier, said_in}

-- the sections of the last answer
abbrev last_sections : List Event → ℕ
last_sections [] = 0
last_sections (e ∷ log) = (said_in e).sections

-- it never tells a jump
hidden : (w : World) (p : List ℕ) (lent left : Buffers) (r : Said) → event jump_hidden w (packet_call p lent) ≡ packet_event p lent (given r) left → r.jump ≡ true → ⊥
hidden w p lent left r =
    packet_ind w.state p w.store lent.out lent.sets
    (λ o. packet_event p lent (told_as told_no_jump o.answer) (record { out = o.out; sets = o.sets }) ≡ packet_event p lent (given r) left → r.jump ≡ true → ⊥)
    (λ n a b e j. let z : ◌≡◌ {A = ℕ} 0 1 = cc in omega arith)
    (λ b e j. let same : unwanted ≡ r = cc in false≢true (ap (λ (x : Said). x.jump) same ∙ j))
    (λ h e j. false≢true (ap (λ (e : Event). (said_in e).jump) e ∙ j))

jump_hidden_lem : AsNew jump_hidden → ⊥
jump_hidden_lem claim = claim.given_up_needed (λ store store₂ whole whole₂ earlier p lent left r is jump. absurd (hidden (run_from jump_hidden _ earlier) p lent left r is jump))

-- a section of three bytes is lost
jump_dropped_lem : AsNew jump_dropped → ⊥
unfolding open_of packet_of sound put rule walk add started begun_in classify kind_of
jump_dropped_lem claim =
    let k = claim.jumps store store whole whole earlier jumping zeros _ _ refl refl in
    let one : ◌≡◌ {A = ℕ} 1 k.told.sections = ap (λ (e : Event). (said_in e).sections) k.answer in
    let none : ◌≡◌ {A = ℕ} 0 k.told.sections = ap (λ (r : Said). r.sections) k.same in
    omega arith

-- of two runs one has seen counter 15, so that `front`, with counter 0, is in step there and the first packet in the other
abbrev before : List ℕ
before = 0x47 ∷ 0x40 ∷ 0x00 ∷ 0x1F ∷ 0x00 ∷ replicate 183 0xFF

first_dropped_lem : AsNew first_dropped → ⊥
unfolding open_of packet_of sound put rule walk add started begun_in classify kind_of
first_dropped_lem claim =
    let k = claim.starts store store whole whole (lend before ∷ open_call 0 All ∷ []) (open_call 0 All ∷ []) front zeros refl refl (λ e. let bytes : ◌≡◌ {A = ℕ} 184 0 = ap length e in omega arith)
    (record { left = _; said = _; answer = refl; wanted = refl; original = refl }) (record { left = _; said = _; answer = refl; wanted = refl; original = refl }) in
    let lost : ◌≡◌ {A = ℕ} 1 0 = ap last_sections (k.log (lend back ∷ [])) in
    omega arith

-- the other 120 bytes of a section of 303 bytes come with counter 3, after counter 0
abbrev skipping : List ℕ
skipping = 0x47 ∷ 0x00 ∷ 0x00 ∷ 0x13 ∷ replicate 120 0x2A ++ replicate 64 0xFF

held_bytes_kept_lem : AsNew held_bytes_kept → ⊥
unfolding open_of packet_of sound put rule walk add started begun_in classify kind_of
held_bytes_kept_lem claim =
    let k = claim.jumps store store whole whole earlier skipping zeros _ _ refl refl in
    let none : ◌≡◌ {A = ℕ} 0 k.told.sections = ap (λ (e : Event). (said_in e).sections) k.answer in
    let one : ◌≡◌ {A = ℕ} 1 k.told.sections = ap (λ (r : Said). r.sections) k.same in
    omega arith

-- PID 5 has the same section, and its end comes after the jump on PID 0
abbrev front_of_five : List ℕ
front_of_five = 0x47 ∷ 0x40 ∷ 0x05 ∷ 0x10 ∷ 0x00 ∷ 0x80 ∷ 0xB1 ∷ 0x2C ∷ replicate 180 0x2A

abbrev back_of_five : List ℕ
back_of_five = 0x47 ∷ 0x00 ∷ 0x05 ∷ 0x11 ∷ replicate 120 0x2A ++ replicate 64 0xFF

all_forgotten_lem : AsNew all_forgotten → ⊥
unfolding open_of packet_of sound put rule walk add started begun_in classify kind_of
all_forgotten_lem claim =
    let k = claim.jumps store store whole whole (lend front_of_five ∷ open_call 5 All ∷ earlier) jumping zeros _ _ refl refl in
    let lost : ◌≡◌ {A = ℕ} 0 1 = ap last_sections (k.onward.log (lend back_of_five ∷ [])) in
    omega arith

pub excluded : ExcludedAtJumps
excluded = (jump_hidden_lem, (jump_dropped_lem, (first_dropped_lem, (held_bytes_kept_lem, (all_forgotten_lem, tt)))))
