-- The packets of the PID among some records.
-- Assumes nothing.
use mathlib.Core.Path.{◌≡◌, ap}
use mathlib.Core.Bool.{Bool, true, false, cond}
use mathlib.Core.List.{List, [], ◌∷◌, ◌++◌}
use Prim.Native.Nat.{ℕ, suc, ◌+◌}
use native.Mathlib.Nat.{add-zero}
use native.Mathlib.Omega.{arith}
use borrow.Author.Tests.{eq-eqb, ne_eqb}
use lib.ListN.{length}
use Rattle.buffer.specs.Verdict.{Arrival, is_of, arrivals}
use Rattle.buffer.specs.declared.Record.{Record}

-- ---- a record of the PID, and one of another
pub counts : (pid i : ℕ) (r : Record) (rs : List Record) → r.pid.0 ≡ pid → arrivals pid i (r ∷ rs) ≡ record { index = i; tick = r.tick } ∷ arrivals pid (suc i) rs
counts pid i r rs e = rw (eq-eqb r.pid.0 pid e)

pub skips : (pid i : ℕ) (r : Record) (rs : List Record) → (r.pid.0 ≡ pid → ⊥) → arrivals pid i (r ∷ rs) ≡ arrivals pid (suc i) rs
skips pid i r rs n = rw (ne_eqb r.pid.0 pid n)

-- ---- the packets of records and records
pub arrivals-append : (pid i : ℕ) (front back : List Record) → arrivals pid i (front ++ back) ≡ arrivals pid i front ++ arrivals pid (i + length front) back
arrivals-append pid i [] back = rw add-zero
arrivals-append pid i (r ∷ front) back = go (is_of pid r) (arrivals-append pid (suc i) front back)
  where
    sum : i + suc (length front) ≡ suc i + length front
    sum = omega arith

    go : (own : Bool) → arrivals pid (suc i) (front ++ back) ≡ arrivals pid (suc i) front ++ arrivals pid (suc i + length front) back
        → cond own (record { index = i; tick = r.tick } ∷ arrivals pid (suc i) (front ++ back)) (arrivals pid (suc i) (front ++ back))
        ≡ cond own (record { index = i; tick = r.tick } ∷ arrivals pid (suc i) front) (arrivals pid (suc i) front) ++ arrivals pid (i + suc (length front)) back
    go true e = rw sum (ap (λ (l : List Arrival). record { index = i; tick = r.tick } ∷ l) e)
    go false e = rw sum e
