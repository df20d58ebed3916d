-- Of some packets there is a last that found the buffer empty; its tick, and how many came since, are what the buffer tells.
-- Assumes nothing.
use mathlib.Core.Path.{◌≡◌, refl, sym, ◌∙◌, ap}
use mathlib.Core.List.{List, [], ◌∷◌, ◌++◌, append-nil, append_assoc}
use Prim.Native.Nat.{ℕ, suc, ◌+◌, ◌<◌}
use native.Mathlib.Decide.{ℕ_discrete}
use native.Mathlib.Nat.{add-zero}
use native.Mathlib.Omega.{arith}
use borrow.Author.Tests.{eq-eqb, ne_eqb}
use lib.ListN.{length}
use lib.Seq.{append_snoc}
use Rattle.buffer.specs.Verdict.{Arrival, Buffer, empty_buffer, left_at, arrive}
use Rattle.buffer.specs.Model.{busy_with}
use Rattle.buffer.specs.Ticks.{up_to, found_by, Along, LastEmpty}
use Rattle.buffer.specs.Laws.{buffer_after, busy_count}
use Rattle.buffer.proofs.Along.{along_more}
use Rattle.buffer.proofs.Busy.{Busy, busy_next}
use Rattle.buffer.proofs.Levels.{nothing}
use Rattle.buffer.proofs.Rising.{Steady, steady_front}
use Rattle.buffer.proofs.Tracked.{after_append, steady_behind, Tracks, tracks_none, tracks_next, found_is}

-- a packet that finds something left
abbrev FindsSome : List Arrival → Arrival → Type 0
FindsSome earlier a = 0 < found_by earlier a

-- ---- there is one
-- of some packets, e being the last so far, and of those that come after them
abbrev Last : List Arrival → Arrival → List Arrival → List Arrival → Type 0
Last before e after rest =
    found_by before e ≡ 0 → Along FindsSome (up_to before e) after → (last : Arrival) × LastEmpty ((before ++ e ∷ after) ++ rest) last

last_next : (before : List Arrival) (e : Arrival) (after : List Arrival) (a : Arrival) (rest : List Arrival)
    → ((front : List Arrival) (x : Arrival) (back : List Arrival) → Last front x back rest) → Last before e after (a ∷ rest)
last_next before e after a rest on z s = go (ℕ_discrete (found_by (before ++ e ∷ after) a) 0)
  where
    go : Dec (found_by (before ++ e ∷ after) a ≡ 0) → (last : Arrival) × LastEmpty ((before ++ e ∷ after) ++ a ∷ rest) last
    go (yes y) = rw append_snoc at (on (before ++ e ∷ after) a [] y tt)
    go (no n) =
        let busy = along_more FindsSome (up_to before e) after a s (rw append_snoc (omega arith)) in
        let found = on before e (after ++ a ∷ []) z busy in
        rw (← append_assoc before (e ∷ after) (a ∷ []), append_snoc) at found

last_of : (before : List Arrival) (e : Arrival) (after rest : List Arrival) → Last before e after rest
last_of before e after [] z s = (e, record { before = before; after = after; split = append-nil (before ++ e ∷ after); empty = z; busy = s })
last_of before e after (a ∷ rest) z s = last_next before e after a rest (λ front x back. last_of front x back rest) z s

pub last_empty : (a : Arrival) (more : List Arrival) → (e : Arrival) × LastEmpty (a ∷ more) e
last_empty a more = last_of [] a [] more (nothing a.tick) tt

-- ---- what the buffer tells of it
pub tracks_along : (earlier : List Arrival) (b : Buffer) (packets : List Arrival) → Tracks earlier b → Steady b.tick packets
    → Tracks (earlier ++ packets) (buffer_after b packets)
tracks_along earlier b [] h s = rw append-nil h
tracks_along earlier b (a ∷ packets) h s =
    rw append_snoc at (tracks_along (up_to earlier a) (arrive b a.tick) packets (tracks_next earlier b a h s.0) s.1)

-- packets that find something left are counted, and nothing else changes
counted : (earlier : List Arrival) (b : Buffer) (m : ℕ) (packets : List Arrival) → Tracks earlier b → Steady b.tick packets → Along FindsSome earlier packets → Busy b m
    → Busy (buffer_after b packets) (m + length packets) × ((buffer_after b packets).since ≡ b.since)
counted earlier b m [] h s f busy = (rw add-zero busy, refl)
counted earlier b m (a ∷ packets) h s f busy =
    let e = found_is earlier b a h s.0 in
    let some = f.0 in
    let n = ne_eqb (left_at b a.tick) 0 (λ z. absurd (omega arith)) in
    let count : busy_with (left_at b a.tick) m ≡ suc m = rw n in
    let since : (arrive b a.tick).since ≡ b.since = rw n in
    let on = counted (up_to earlier a) (arrive b a.tick) (suc m) packets (tracks_next earlier b a h s.0) s.1 f.1 (rw count at (busy_next b a.tick m busy s.0)) in
    let sum : m + suc (length packets) ≡ suc m + length packets = omega arith in
    (rw sum on.0, on.1 ∙ since)

pub told_last : (packets : List Arrival) (e : Arrival) (l : LastEmpty packets e) → Steady 0 packets
    → Busy (buffer_after empty_buffer packets) (busy_count l) × ((buffer_after empty_buffer packets).since ≡ e.tick)
told_last packets e l s =
    let steady : Steady 0 (l.before ++ e ∷ l.after) = rw l.split at s in
    let b = buffer_after empty_buffer l.before in
    let h = tracks_along [] empty_buffer l.before tracks_none (steady_front 0 l.before (e ∷ l.after) steady) in
    let rest = steady_behind empty_buffer l.before (e ∷ l.after) steady in
    let z : left_at b e.tick ≡ 0 = sym (found_is l.before b e h rest.0) ∙ l.empty in
    let y = eq-eqb (left_at b e.tick) 0 z in
    let since : (arrive b e.tick).since ≡ e.tick = rw y in
    let first : Busy (arrive b e.tick) 1 = record { early = omega arith; work = omega arith } in
    let on = counted (up_to l.before e) (arrive b e.tick) 1 l.after (tracks_next l.before b e h rest.0) rest.1 l.busy first in
    let is : buffer_after empty_buffer packets ≡ buffer_after (arrive b e.tick) l.after =
    ap (buffer_after empty_buffer) l.split ∙ after_append empty_buffer l.before (e ∷ l.after) in
    let sum : 1 + length l.after ≡ busy_count l = omega arith in
    (rw (is, ← sum) on.0, rw is (on.1 ∙ since))
