-- While the buffer is busy it drains one a tick, so what is left to drain is 20,304 for each packet since it was last found empty: the second rule is broken by the 1,330th of them, and by no earlier one.
-- Assumes nothing.
use mathlib.Core.Path.{◌≡◌, sym, ◌∙◌}
use Prim.Native.Nat.{ℕ, ◌+◌, ◌-◌, ◌*◌, ◌≤◌, ◌<◌}
use native.Mathlib.Decide.{dec_lt, ℕ_discrete}
use native.Mathlib.Omega.{arith}
use borrow.Author.Tests.{lt-ltb, le-ltb, eq-eqb, ne_eqb}
use lib.Dec.{ltb}
use Rattle.buffer.specs.Verdict.{Buffer, empty_buffer, left_at, arrive, is_too_late}
use Rattle.buffer.specs.Model.{busy_with}

-- m packets came since the buffer was last found empty, the last of them at b's tick
pub record Busy (b : Buffer) (m : ℕ) : Type 0 where
  pub early : b.since ≤ b.tick
  pub work : b.tick + b.level ≡ b.since + 20304 * m

pub busy_none : Busy empty_buffer 0
busy_none = record { early = omega arith; work = omega arith }

-- a packet that finds it empty is the first, any other is one more
pub busy_next : (b : Buffer) (t m : ℕ) → Busy b m → b.tick ≤ t → Busy (arrive b t) (busy_with (left_at b t) m)
busy_next b t m h k = go (ℕ_discrete (left_at b t) 0)
  where
    go : Dec (left_at b t ≡ 0) → Busy (arrive b t) (busy_with (left_at b t) m)
    go (yes e) = rw (eq-eqb (left_at b t) 0 e) (record { early = omega arith; work = omega arith })
    go (no n) = rw (ne_eqb (left_at b t) 0 n) (record { early = omega arith; work = omega arith })

-- the rule by the count
pub late_by_count : (b : Buffer) (m : ℕ) → Busy b m → is_too_late b ≡ ltb 1329 m
late_by_count b m h = go (dec_lt 1329 m)
  where
    go : Dec (1329 < m) → is_too_late b ≡ ltb 1329 m
    go (yes l) = let w = h.work in lt-ltb 27000000 (b.tick + b.level - b.since) (omega arith) ∙ sym (lt-ltb 1329 m l)
    go (no l) = let w = h.work in le-ltb 27000000 (b.tick + b.level - b.since) (omega arith) ∙ sym (le-ltb 1329 m (omega arith))
