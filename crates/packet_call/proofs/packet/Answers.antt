-- Each return is the first row of the table that applies; a packet that is read goes on to its area.
-- Assumes nothing.
use mathlib.Core.Path.{◌≡◌, sym, ◌∙◌, ap}
use Prim.Native.Nat.{ℕ, ◌<◌}
use lib.ListN.{length}
use Rattle.packet.specs.Packet.{Contents}
use Rattle.state.specs.State.{area_of, has_pid}
use Rattle.state.proofs.Found.{index_some, index_none}
use Rattle.ground.specs.Told.{number_of}
use Rattle.packet_call.specs.Packet.{pid_of, after_tests}
use Rattle.packet_call.proofs.PacketRead.{read_same, read_silent}
use Rattle.packet_call.proofs.Order.{packet_unsound, packet_sizes, packet_refused, packet_read, reading_unwanted, reading_wanted}
use Rattle.packet_call.proofs.packet.Goals as goal

pub returns-then-not-is_sound : goal.returns-then-not-is_sound
returns-then-not-is_sound c =
    let a = c.args in
    rw c.refused.ensures
    (sym (packet_unsound a.state a.bytes.now a.store.now a.out.now a.sets.now (sym c.is_sound.ensures ∙ c.if-not-is_sound.true)))

pub returns-then-store-out : goal.returns-then-store-out
returns-then-store-out c =
    let a = c.args in
    rw c.refused-then-store-out.ensures
    (sym (packet_sizes a.state a.bytes.now a.store.now a.out.now a.sets.now (sym c.is_sound.ensures ∙ c.if-not-is_sound.false) c.if-store-out.true))

pub returns-in-Err : goal.returns-in-Err
returns-in-Err c =
    let a = c.args in
    let fine = sym c.is_sound.ensures ∙ c.if-not-is_sound.false in
    rw c.refused-in-Err.ensures
    (sym (packet_refused a.state a.bytes.now a.store.now a.out.now a.sets.now (number_of c.in-Err.why) fine c.if-store-out.false (sym c.in-Err.ensures)))

pub returns-in-Some : goal.returns-in-Some
returns-in-Some c =
    let a = c.args in
    let s = a.state in
    let b = a.bytes.now in
    let fine = sym c.is_sound.ensures ∙ c.if-not-is_sound.false in
    let e = sym c.in-Ok.ensures in
    let p = c.in-Ok.packet in
    let pid : p.pid.0 ≡ pid_of b = ap (λ (q : Contents). q.pid) (sym (read_same b p e)) in
    let found = index_some (has_pid p.pid.0) s.areas c.in-Some.ensures in
    let own : area_of p.pid.0 s.areas ≡ area_of (pid_of b) s.areas = ap (λ (n : ℕ). area_of n s.areas) pid in
    let inside : area_of (pid_of b) s.areas < length s.areas = rw own at found.1 in
    c.wanted.ensures
    ∙ ap (λ (n : ℕ). after_tests s n b a.store.now a.out.now a.sets.now) (found.0 ∙ own)
    ∙ sym
    (packet_read s b a.store.now a.out.now a.sets.now fine c.if-store-out.false (read_silent b p e)
    ∙ reading_wanted s (area_of (pid_of b) s.areas) b a.store.now a.out.now a.sets.now inside)

pub returns-in-None : goal.returns-in-None
returns-in-None c =
    let a = c.args in
    let s = a.state in
    let b = a.bytes.now in
    let fine = sym c.is_sound.ensures ∙ c.if-not-is_sound.false in
    let e = sym c.in-Ok.ensures in
    let p = c.in-Ok.packet in
    let pid : p.pid.0 ≡ pid_of b = ap (λ (q : Contents). q.pid) (sym (read_same b p e)) in
    let past = rw (ap (λ (n : ℕ). area_of n s.areas) pid) at (index_none (has_pid p.pid.0) s.areas c.in-None.ensures) in
    sym
    (packet_read s b a.store.now a.out.now a.sets.now fine c.if-store-out.false (read_silent b p e)
    ∙ reading_unwanted s (area_of (pid_of b) s.areas) b a.store.now a.out.now a.sets.now past)
