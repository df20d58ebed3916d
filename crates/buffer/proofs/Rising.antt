-- Ticks that never fall, as a test, from packet to packet and of any two successive packets: the three are one.
-- Assumes nothing.
use mathlib.Core.Path.{◌≡◌, refl, ap}
use mathlib.Core.Bool.{Bool, true, false, ◌||◌, false≢true}
use mathlib.Core.List.{List, [], ◌∷◌, ◌++◌}
use Prim.Native.Nat.{ℕ, ◌≤◌}
use native.Mathlib.Omega.{arith}
use borrow.Author.Tests.{le-ltb, ltb-true, ltb-false}
use lib.Dec.{ltb}
use Rattle.ground.proofs.Test.{neither}
use Rattle.buffer.specs.Verdict.{Arrival, goes_back}
use Rattle.buffer.specs.Ticks.{Successive, Falls, Rises}

-- each tick is at least the one before it, and the first at least t
abbrev pub Steady : ℕ → List Arrival → Type 0
Steady t [] = Unit {0}
Steady t (a ∷ more) = (t ≤ a.tick) × Steady a.tick more

-- ---- the test
pub steady_test : (t : ℕ) (packets : List Arrival) → Steady t packets → goes_back t packets ≡ false
steady_test t [] s = refl
steady_test t (a ∷ more) s = rw (le-ltb a.tick t s.0) (steady_test a.tick more s.1)

pub test_steady : (t : ℕ) (packets : List Arrival) → goes_back t packets ≡ false → Steady t packets
test_steady t [] e = tt
test_steady t (a ∷ more) e =
    let both = neither (ltb a.tick t) (goes_back a.tick more) e in
    (ltb-false a.tick t both.0, test_steady a.tick more both.1)

-- ---- the front of a list, and what stands behind it
pub steady_front : (t : ℕ) (front back : List Arrival) → Steady t (front ++ back) → Steady t front
steady_front t [] back s = tt
steady_front t (a ∷ front) back s = (s.0, steady_front a.tick front back s.1)

-- ---- any two successive packets
-- with one more in front
pub one_in_front : (x a b : Arrival) (packets : List Arrival) → Successive packets a b → Successive (x ∷ packets) a b
one_in_front x a b packets s = record { front = x ∷ s.front; back = s.back; split = ap (λ (l : List Arrival). x ∷ l) s.split }

pub at_front : (a b : Arrival) (more : List Arrival) → Successive (a ∷ b ∷ more) a b
at_front a b more = record { front = []; back = more; split = refl }

pub steady_rises : (t : ℕ) (packets : List Arrival) → Steady t packets → Rises packets
steady_rises t packets s a b successive = go t successive.front (rw successive.split at s)
  where
    go : (u : ℕ) (front : List Arrival) → Steady u (front ++ a ∷ b ∷ successive.back) → a.tick ≤ b.tick
    go u [] s = s.1.0
    go u (x ∷ front) s = go x.tick front s.1

pub rises_steady : (packets : List Arrival) → Rises packets → Steady 0 packets
rises_steady [] r = tt
rises_steady (a ∷ more) r = (omega arith, go a more r)
  where
    go : (a : Arrival) (more : List Arrival) → Rises (a ∷ more) → Steady a.tick more
    go a [] r = tt
    go a (b ∷ more) r = (r a b (at_front a b more), go b more (λ x y s. r x y (one_in_front a x y (b ∷ more) s)))

-- ---- a tick that falls
pub falls_not : (t : ℕ) (packets : List Arrival) → Falls packets → Steady t packets → ⊥
falls_not t packets f s = let h = steady_rises t packets s f.0 f.1 f.2 in let l = f.3 in absurd (omega arith)

pub test_falls : (packets : List Arrival) → goes_back 0 packets ≡ true → Falls packets
test_falls [] e = absurd (false≢true e)
test_falls (a ∷ more) e = go a more (rw (le-ltb a.tick 0 (omega arith)) at e)
  where
    here : (a b : Arrival) (more : List Arrival) (low : Bool) → ltb b.tick a.tick ≡ low → (goes_back b.tick more ≡ true → Falls (b ∷ more))
        → (low || goes_back b.tick more) ≡ true → Falls (a ∷ b ∷ more)
    here a b more true e on f = (a, b, at_front a b more, ltb-true b.tick a.tick e)
    here a b more false e on f = let found = on f in (found.0, found.1, one_in_front a found.0 found.1 (b ∷ more) found.2, found.3)

    go : (a : Arrival) (more : List Arrival) → goes_back a.tick more ≡ true → Falls (a ∷ more)
    go a [] e = absurd (false≢true e)
    go a (b ∷ more) e = here a b more (ltb b.tick a.tick) refl (go b more) e
