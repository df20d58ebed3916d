-- The level tick by tick: what the last packet changes of it, and what it is where no packet comes any more.
-- Assumes nothing.
use mathlib.Core.Path.{◌≡◌, refl, ◌∙◌}
use mathlib.Core.Bool.{cond}
use mathlib.Core.List.{List, [], ◌∷◌, ◌++◌}
use Prim.Native.Nat.{ℕ, zero, suc, ◌+◌, ◌-◌, ◌≤◌, ◌<◌}
use native.Mathlib.Nat.{add-suc, add-zero}
use native.Mathlib.Omega.{arith}
use borrow.Author.Tests.{eq-eqb, ne_eqb}
use lib.Dec.{eqb}
use Rattle.ground.specs.Walk.{count, Every}
use Rattle.ground.proofs.Walk.{total-append}
use Rattle.buffer.specs.Ticks.{after_tick, drains, level_at}

-- ---- a tick takes one off, if there is one
pub tick_off : (level : ℕ) → after_tick level ≡ level - 1
tick_off zero = omega arith
tick_off (suc level) = omega arith

pub ticks_off : (level ticks : ℕ) → drains level ticks ≡ level - ticks
ticks_off level zero = omega arith
ticks_off level (suc ticks) = let e = ticks_off level ticks in tick_off (drains level ticks) ∙ omega arith

-- ---- how many come at a tick
abbrev come_at : ℕ → List ℕ → ℕ
come_at t ticks = count (eqb t) ticks

none_at : (t last : ℕ) (ticks : List ℕ) → Every (λ (u : ℕ). u ≤ last) ticks → last < t → come_at t ticks ≡ 0
none_at t last [] h k = refl
none_at t last (u ∷ ticks) h k = rw (ne_eqb t u (λ e. let l = h.0 in absurd (omega arith))) (omega (arith, none_at t last ticks h.1 k))

-- the last packet comes at its tick
comes_then : (t : ℕ) (ticks : List ℕ) → come_at t (ticks ++ t ∷ []) ≡ come_at t ticks + 1
comes_then t ticks = total-append (λ (u : ℕ). cond (eqb t u) 1 0) ticks (t ∷ []) ∙ rw (eq-eqb t t refl)

-- and at no other
comes_not : (t u : ℕ) (ticks : List ℕ) → (u ≡ t → ⊥) → come_at u (ticks ++ t ∷ []) ≡ come_at u ticks
comes_not t u ticks n = total-append (λ (x : ℕ). cond (eqb u x) 1 0) ticks (t ∷ []) ∙ rw (ne_eqb u t n) (omega arith)

-- ---- the level
-- after the last packet it falls by one a tick
pub quiet : (ticks : List ℕ) (last t : ℕ) → Every (λ (u : ℕ). u ≤ last) ticks → level_at ticks (last + t) ≡ level_at ticks last - t
quiet ticks last zero h = rw add-zero (omega arith)
quiet ticks last (suc t) h =
    let e = quiet ticks last t h in
    let n = none_at (suc (last + t)) last ticks h (omega arith) in
    let f = tick_off (level_at ticks (last + t)) in
    rw add-suc (omega arith)

-- before a packet comes, it changes nothing
pub unchanged : (t u : ℕ) (ticks : List ℕ) → u < t → level_at (ticks ++ t ∷ []) u ≡ level_at ticks u
unchanged t zero ticks l = rw (comes_not t zero ticks (λ e. absurd (omega arith)))
unchanged t (suc u) ticks l = rw (comes_not t (suc u) ticks (λ e. absurd (omega arith)), unchanged t u ticks (omega arith))

-- at its tick it brings 20,304
pub brings : (t : ℕ) (ticks : List ℕ) → level_at (ticks ++ t ∷ []) t ≡ level_at ticks t + 20304
brings zero ticks = rw (comes_then zero ticks) (omega arith)
brings (suc t) ticks = rw (comes_then (suc t) ticks, unchanged (suc t) t ticks (omega arith)) (omega arith)

-- with no packet there is none
pub nothing : (t : ℕ) → level_at [] t ≡ 0
nothing zero = refl
nothing (suc t) = rw (nothing t)
