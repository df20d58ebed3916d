-- Packets that come when the one before has drained find the buffer empty; three at one tick are more than it holds.
-- Assumes nothing.
use mathlib.Core.Path.{◌≡◌, refl, ◌∙◌, ap}
use mathlib.Core.Bool.{false}
use mathlib.Core.List.{List, [], ◌∷◌, ◌++◌}
use Prim.Native.Nat.{ℕ, ◌+◌, ◌-◌, ◌≤◌}
use native.Mathlib.Omega.{arith}
use borrow.Author.Tests.{le-ltb, eq-eqb}
use lib.Seq.{append_snoc}
use Rattle.ground.specs.Answer.{given}
use Rattle.buffer.specs.Verdict.{passes, Arrival, arrivals, Buffer, empty_buffer, left_at, arrive, is_too_high, is_too_late, first_break, verdict_of}
use Rattle.buffer.specs.Ticks.{level_at, up_to, ticks_of, KeepsRules, Successive}
use Rattle.buffer.specs.declared.Record.{Record}
use Rattle.buffer.proofs.Rising.{at_front, one_in_front, rises_steady, steady_test}
use Rattle.buffer.proofs.Levels.{brings}
use Rattle.buffer.proofs.Tracked.{ticks_up_to}
use Rattle.buffer.proofs.Along.{along_at}
use Rattle.buffer.proofs.Found.{told_by, given_exactly}

abbrev Apart : List Arrival → Type 0
Apart packets = (a b : Arrival) → Successive packets a b → a.tick + 20304 ≤ b.tick

-- a packet that finds the buffer empty keeps both rules
alone : (b : Buffer) (t : ℕ) → b.tick + b.level ≤ t → (is_too_high (arrive b t) ≡ false) × (is_too_late (arrive b t) ≡ false)
alone b t l =
    let z : left_at b t ≡ 0 = omega arith in
    (le-ltb 55296 (left_at b t + 20304) (omega arith), rw (eq-eqb (left_at b t) 0 z) (le-ltb 27000000 (t + (left_at b t + 20304) - t) (omega arith)))

passed : (b : Buffer) (a : Arrival) (packets : List Arrival) → b.tick + b.level ≤ a.tick → Apart (a ∷ packets) → first_break b (a ∷ packets) ≡ passes
passed b a [] l apart = let kept = alone b a.tick l in rw (kept.0, kept.1)
passed b a (c ∷ packets) l apart =
    let kept = alone b a.tick l in
    let next = apart a c (at_front a c packets) in
    rw (kept.0, kept.1) (passed (arrive b a.tick) c packets (omega arith) (λ x y s. apart x y (one_in_front a x y (c ∷ packets) s)))

pub apart_passes : (pid : ℕ) (rs : List Record) → Apart (arrivals pid 0 rs) → verdict_of pid rs ≡ given passes
apart_passes pid rs apart =
    told_by pid rs false (steady_test 0 (arrivals pid 0 rs) (rises_steady (arrivals pid 0 rs) (λ x y s. let l = apart x y s in omega arith)))
    ∙ ap given (go (arrivals pid 0 rs) apart)
  where
    go : (packets : List Arrival) → Apart packets → first_break empty_buffer packets ≡ passes
    go [] apart = refl
    go (a ∷ packets) apart = passed empty_buffer a packets (omega arith) apart

-- ---- three at one tick
-- a packet brings 20,304 at its tick
brought : (packets : List Arrival) (a : Arrival) (t : ℕ) → a.tick ≡ t → level_at (ticks_of (up_to packets a)) t ≡ level_at (ticks_of packets) t + 20304
brought packets a t e = rw (ticks_up_to packets a, e) (brings t (ticks_of packets))

pub three_overrun : (pid : ℕ) (rs : List Record) (front back : List Arrival) (a b c : Arrival) → arrivals pid 0 rs ≡ front ++ a ∷ b ∷ c ∷ back
    → a.tick ≡ b.tick → b.tick ≡ c.tick → verdict_of pid rs ≡ given passes → ⊥
three_overrun pid rs front back a b c e same also told =
    let two = up_to (up_to front a) b in
    let split : arrivals pid 0 rs ≡ two ++ c ∷ back = rw (append_snoc (up_to front a) b (c ∷ back), append_snoc front a (b ∷ c ∷ back)) e in
    let low = (along_at KeepsRules [] two c back (rw split at ((given_exactly pid rs passes).0 told).1)).low in
    let first = brought front a c.tick (same ∙ also) in
    let second = brought (up_to front a) b c.tick also in
    let third = brought two c c.tick refl in
    absurd (omega arith)
