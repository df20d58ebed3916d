-- The second rule by the count of packets since the last that found the buffer empty: the 1,330th is the first to break it.
-- Assumes nothing.
use mathlib.Core.Path.{◌≡◌, sym, ◌∙◌, ap}
use mathlib.Core.Bool.{Bool, true, false, cond}
use mathlib.Core.List.{List, [], ◌∷◌}
use Prim.Native.Nat.{ℕ, suc, ◌+◌, ◌*◌, ◌≤◌}
use native.Mathlib.Omega.{arith}
use borrow.Author.Tests.{ltb-true, ltb-false}
use lib.Dec.{ltb, eqb}
use Rattle.ground.specs.Answer.{given}
use Rattle.buffer.specs.Verdict.{lingers, Arrival, arrivals, Buffer, empty_buffer, left_at, arrive, is_too_late, verdict_of}
use Rattle.buffer.specs.Model.{busy_with}
use Rattle.buffer.specs.Ticks.{up_to, Along, LastEmpty, KeepsRules, TooLate, FirstTo, Rises}
use Rattle.buffer.specs.Laws.{buffer_after, busy_count}
use Rattle.buffer.specs.declared.Record.{Record}
use Rattle.buffer.proofs.Busy.{Busy, busy_none, busy_next, late_by_count}
use Rattle.buffer.proofs.Rising.{Steady, rises_steady}
use Rattle.buffer.proofs.Tracked.{Tracks, tracks_none, tracks_next}
use Rattle.buffer.proofs.LastEmpty.{told_last}
use Rattle.buffer.proofs.Rules.{keeps_tests, late_tests}
use Rattle.buffer.proofs.Found.{given_exactly, reached, comes}

pub busy_time : (packets : List Arrival) (e : Arrival) (l : LastEmpty packets e) → Rises packets
    → (buffer_after empty_buffer packets).tick + (buffer_after empty_buffer packets).level ≡ e.tick + 20304 * busy_count l
busy_time packets e l r =
    let told = told_last packets e l (rises_steady packets r) in
    told.0.work ∙ ap (λ (t : ℕ). t + 20304 * busy_count l) told.1

pub late_exactly : (packets : List Arrival) (e : Arrival) (l : LastEmpty packets e) → Rises packets
    → is_too_late (buffer_after empty_buffer packets) ≡ ltb 1329 (busy_count l)
late_exactly packets e l r = late_by_count (buffer_after empty_buffer packets) (busy_count l) (told_last packets e l (rises_steady packets r)).0

-- ---- the first to break it
-- after packets that keep both rules there is a count, and it is 1,329 at most
few : (earlier : List Arrival) (b : Buffer) (m : ℕ) (packets : List Arrival) → Tracks earlier b → Steady b.tick packets → Along KeepsRules earlier packets
    → Busy b m → m ≤ 1329 → (n : ℕ) × Busy (buffer_after b packets) n × (n ≤ 1329)
few earlier b m [] h s k busy l = (m, busy, l)
few earlier b m (a ∷ packets) h s k busy l =
    let next = busy_next b a.tick m busy s.0 in
    let early = (keeps_tests earlier b a h s.0 k.0).1 in
    few (up_to earlier a) (arrive b a.tick) (busy_with (left_at b a.tick) m) packets (tracks_next earlier b a h s.0) s.1 k.1 next
    (ltb-false 1329 (busy_with (left_at b a.tick) m) (sym (late_by_count (arrive b a.tick) (busy_with (left_at b a.tick) m) next) ∙ early))

-- a packet adds one at most
one_at_most : (left m : ℕ) → busy_with left m ≤ suc m
one_at_most left m = go (eqb left 0)
  where
    go : (b : Bool) → cond b 1 (suc m) ≤ suc m
    go true = omega arith
    go false = omega arith

pub first_to_linger : (pid : ℕ) (rs : List Record) (i : ℕ) → verdict_of pid rs ≡ given (lingers i)
    → FirstTo (λ (earlier : List Arrival) (a : Arrival). (e : Arrival) × (l : LastEmpty (up_to earlier a) e) × (busy_count l ≡ 1330)) (arrivals pid 0 rs) i
first_to_linger pid rs i e =
    let found = (given_exactly pid rs (lingers i)).0 e in
    let s = rises_steady (arrivals pid 0 rs) found.0 in
    let d = found.1 in
    record {
      earlier = d.earlier;
      packet = d.packet;
      later = d.later;
      split = d.split;
      index = d.index;
      kept = d.kept;
      breaks = (d.breaks.left.packet, d.breaks.left.last, last d s);
    }
  where
    last : (d : FirstTo TooLate (arrivals pid 0 rs) i) → Steady 0 (arrivals pid 0 rs) → busy_count d.breaks.left.last ≡ 1330
    last d s =
        let h = reached TooLate (arrivals pid 0 rs) i d s in
        let k = comes TooLate (arrivals pid 0 rs) i d s in
        let b = buffer_after empty_buffer d.earlier in
        let now = arrive b d.packet.tick in
        let here = tracks_next d.earlier b d.packet h k in
        let m = busy_count d.breaks.left.last in
        let busy : Busy now m = rw here.is at (told_last (up_to d.earlier d.packet) d.breaks.left.packet d.breaks.left.last here.steady).0 in
        let more = ltb-true 1329 m (sym (late_by_count now m busy) ∙ (late_tests d.earlier b d.packet h k d.breaks).1) in
        let before = few [] empty_buffer 0 d.earlier tracks_none h.steady d.kept busy_none (omega arith) in
        let next = busy_next b d.packet.tick before.0 before.1 k in
        let one = one_at_most (left_at b d.packet.tick) before.0 in
        let l = before.2 in
        let w = busy.work in
        let v = next.work in
        omega arith
