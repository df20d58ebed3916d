-- The buffer from packet to packet is the level tick by tick: at each tick from the last packet on, and not empty from the last packet that found it empty until it has drained.
-- Assumes nothing.
use mathlib.Core.Path.{◌≡◌, refl, sym, ◌∙◌, ap}
use mathlib.Core.List.{List, [], ◌∷◌, ◌++◌, map-append}
use Prim.Native.Nat.{ℕ, ◌+◌, ◌-◌, ◌≤◌, ◌<◌}
use native.Mathlib.Decide.{dec_lt, ℕ_discrete}
use native.Mathlib.Omega.{arith}
use borrow.Author.Tests.{eq-eqb, ne_eqb}
use Rattle.ground.specs.Walk.{Every}
use Rattle.ground.proofs.Walk.{every_append}
use Rattle.buffer.specs.Verdict.{Arrival, Buffer, empty_buffer, left_at, arrive}
use Rattle.buffer.specs.Ticks.{level_at, up_to, ticks_of}
use Rattle.buffer.specs.Laws.{buffer_after}
use Rattle.buffer.proofs.Rising.{Steady}
use Rattle.buffer.proofs.Levels.{quiet, unchanged, brings}

-- ---- the buffer after packets and packets
pub after_append : (b : Buffer) (front back : List Arrival) → buffer_after b (front ++ back) ≡ buffer_after (buffer_after b front) back
after_append b [] back = refl
after_append b (a ∷ front) back = after_append (arrive b a.tick) front back

pub steady_behind : (b : Buffer) (front back : List Arrival) → Steady b.tick (front ++ back) → Steady (buffer_after b front).tick back
steady_behind b [] back s = s
steady_behind b (a ∷ front) back s = steady_behind (arrive b a.tick) front back s.1

steady_more : (b : Buffer) (packets : List Arrival) (a : Arrival) → Steady b.tick packets → (buffer_after b packets).tick ≤ a.tick → Steady b.tick (up_to packets a)
steady_more b [] a s k = (k, tt)
steady_more b (x ∷ packets) a s k = (s.0, steady_more (arrive b x.tick) packets a s.1 k)

-- ---- b is the buffer after these packets
pub record Tracks (packets : List Arrival) (b : Buffer) : Type 0 where
  pub is : buffer_after empty_buffer packets ≡ b
  pub steady : Steady 0 packets
  pub bound : Every (λ (t : ℕ). t ≤ b.tick) (ticks_of packets)
  pub level : level_at (ticks_of packets) b.tick ≡ b.level
  pub early : b.since ≤ b.tick
  pub busy : (t : ℕ) → b.since ≤ t → t < b.tick + b.level → 0 < level_at (ticks_of packets) t

pub tracks_none : Tracks [] empty_buffer
tracks_none = record { is = refl; steady = tt; bound = tt; level = refl; early = omega arith; busy = λ t h k. absurd (omega arith) }

-- what it shows from its last packet on
pub tracked : (packets : List Arrival) (b : Buffer) (t : ℕ) → Tracks packets b → b.tick ≤ t → level_at (ticks_of packets) t ≡ left_at b t
tracked packets b t h k =
    let e : b.tick + (t - b.tick) ≡ t = omega arith in
    ap (level_at (ticks_of packets)) (sym e) ∙ quiet (ticks_of packets) b.tick (t - b.tick) h.bound ∙ ap (λ (n : ℕ). n - (t - b.tick)) h.level

pub ticks_up_to : (packets : List Arrival) (a : Arrival) → ticks_of (up_to packets a) ≡ ticks_of packets ++ a.tick ∷ []
ticks_up_to packets a = map-append (λ (x : Arrival). x.tick) packets (a ∷ [])

-- ---- one packet more
module _ (packets : List Arrival) (b : Buffer) (a : Arrival) (h : Tracks packets b) (k : b.tick ≤ a.tick) where
  -- the level that it finds
  pub found_is : level_at (ticks_of packets) a.tick ≡ left_at b a.tick
  found_is = tracked packets b a.tick h k

  -- and the level that it leaves
  pub left_is : level_at (ticks_of (up_to packets a)) a.tick ≡ left_at b a.tick + 20304
  left_is = rw (ticks_up_to packets a) (brings a.tick (ticks_of packets) ∙ ap (λ (n : ℕ). n + 20304) found_is)

  bounded : Every (λ (t : ℕ). t ≤ a.tick) (ticks_of (up_to packets a))
  bounded = rw (ticks_up_to packets a) (every_append (λ (t : ℕ). t ≤ a.tick) (ticks_of packets) (a.tick ∷ []) (weaker (ticks_of packets) h.bound) (omega arith, tt))
    where
      weaker : (ticks : List ℕ) → Every (λ (t : ℕ). t ≤ b.tick) ticks → Every (λ (t : ℕ). t ≤ a.tick) ticks
      weaker [] e = tt
      weaker (t ∷ ticks) e = (omega (arith, e.0), weaker ticks e.1)

  -- before its tick nothing has changed
  as_before : (t : ℕ) → t < a.tick → level_at (ticks_of (up_to packets a)) t ≡ level_at (ticks_of packets) t
  as_before t l = rw (ticks_up_to packets a) (unchanged a.tick t (ticks_of packets) l)

  -- from it on the level falls by one a tick
  from_then : (t : ℕ) → a.tick ≤ t → level_at (ticks_of (up_to packets a)) t ≡ left_at b a.tick + 20304 - (t - a.tick)
  from_then t l =
      let e : a.tick + (t - a.tick) ≡ t = omega arith in
      ap (level_at (ticks_of (up_to packets a))) (sym e) ∙ quiet (ticks_of (up_to packets a)) a.tick (t - a.tick) bounded
      ∙ ap (λ (n : ℕ). n - (t - a.tick)) left_is

  next_is : buffer_after empty_buffer (up_to packets a) ≡ arrive b a.tick
  next_is = after_append empty_buffer packets (a ∷ []) ∙ ap (λ (c : Buffer). arrive c a.tick) h.is

  next_steady : Steady 0 (up_to packets a)
  next_steady = steady_more empty_buffer packets a h.steady (rw h.is k)

  -- the level is above 0 from its tick until it has drained, and where it was so before, from then on
  stays_busy : (t : ℕ) → t < a.tick + (left_at b a.tick + 20304) → (t < a.tick → 0 < level_at (ticks_of packets) t) → 0 < level_at (ticks_of (up_to packets a)) t
  stays_busy t m earlier = now (dec_lt t a.tick)
    where
      now : Dec (t < a.tick) → 0 < level_at (ticks_of (up_to packets a)) t
      now (yes less) = rw (as_before t less) (earlier less)
      now (no more) = let e = from_then t (omega arith) in omega arith

  -- by the tick of the last packet that found the buffer empty
  tracks_since : (since : ℕ) → (arrive b a.tick).since ≡ since → since ≤ a.tick → ((t : ℕ) → since ≤ t → t < a.tick → 0 < level_at (ticks_of packets) t)
      → Tracks (up_to packets a) (arrive b a.tick)
  tracks_since since e early earlier =
      record {
        is = next_is;
        steady = next_steady;
        bound = bounded;
        level = left_is;
        early = rw e early;
        busy = λ t l m. let k : since ≤ t = rw (← e) l in stays_busy t m (earlier t k);
      }

  pub tracks_next : Tracks (up_to packets a) (arrive b a.tick)
  tracks_next = go (ℕ_discrete (left_at b a.tick) 0)
    where
      go : Dec (left_at b a.tick ≡ 0) → Tracks (up_to packets a) (arrive b a.tick)
      go (yes e) = tracks_since a.tick (rw (eq-eqb (left_at b a.tick) 0 e)) (omega arith) (λ t l less. absurd (omega arith))
      go (no n) =
          let early = h.early in
          tracks_since b.since (rw (ne_eqb (left_at b a.tick) 0 n)) (omega arith) (λ t l less. h.busy t l (omega arith))
