-- What is found is the first packet that breaks a rule, tick by tick; and nothing else would be.
-- Assumes nothing.
use mathlib.Core.Path.{◌≡◌, refl, sym, ◌∙◌, ap}
use mathlib.Core.Bool.{Bool, true, false, cond}
use mathlib.Core.List.{List, [], ◌∷◌, ◌++◌, append-nil}
use mathlib.Core.Logic.{◌↔◌}
use Prim.Native.Nat.{ℕ, ◌≤◌}
use lib.Seq.{append_snoc}
use Rattle.ground.specs.Answer.{refused, given}
use Rattle.ground.proofs.Answer.{given_apart, given_same, refused_same}
use Rattle.buffer.specs.Verdict.{Finding, passes, overruns, lingers, Arrival, arrivals, Buffer, empty_buffer, arrive, is_too_high, is_too_late, first_break, goes_back, verdict_of}
use Rattle.buffer.specs.Ticks.{up_to, Along, KeepsRules, TooHigh, TooLate, FirstTo, Finds, Falls, Rises}
use Rattle.buffer.specs.Laws.{buffer_after}
use Rattle.buffer.specs.declared.Record.{Record}
use Rattle.buffer.proofs.Rising.{Steady, test_steady, steady_test, steady_front, steady_rises, rises_steady, falls_not, test_falls}
use Rattle.buffer.proofs.Tracked.{steady_behind, Tracks, tracks_none, tracks_next}
use Rattle.buffer.proofs.Along.{along_more}
use Rattle.buffer.proofs.LastEmpty.{tracks_along}
use Rattle.buffer.proofs.Rules.{high_test, test_high, keeps_tests, tests_keep, late_tests, tests_late}

-- ---- packets that keep both rules are passed over
skip : (earlier : List Arrival) (b : Buffer) (packets rest : List Arrival) → Tracks earlier b → Steady b.tick (packets ++ rest) → Along KeepsRules earlier packets
    → first_break b (packets ++ rest) ≡ first_break (buffer_after b packets) rest
skip earlier b [] rest h s k = refl
skip earlier b (a ∷ packets) rest h s k =
    let t = keeps_tests earlier b a h s.0 k.0 in
    rw (t.0, t.1) (skip (up_to earlier a) (arrive b a.tick) packets rest (tracks_next earlier b a h s.0) s.1 k.1)

-- up to the packet that breaks one
module _ (Breaks : List Arrival → Arrival → Type 0) (packets : List Arrival) (i : ℕ) (d : FirstTo Breaks packets i) (s : Steady 0 packets) where
  steady : Steady 0 (d.earlier ++ d.packet ∷ d.later)
  steady = rw d.split at s

  abbrev before : Buffer
  before = buffer_after empty_buffer d.earlier

  pub reached : Tracks d.earlier before
  reached = tracks_along [] empty_buffer d.earlier tracks_none (steady_front 0 d.earlier (d.packet ∷ d.later) steady)

  pub comes : before.tick ≤ d.packet.tick
  comes = (steady_behind empty_buffer d.earlier (d.packet ∷ d.later) steady).0

  skipped : first_break empty_buffer packets ≡ first_break before (d.packet ∷ d.later)
  skipped = ap (first_break empty_buffer) d.split ∙ skip [] empty_buffer d.earlier (d.packet ∷ d.later) tracks_none steady d.kept

pub finds_first : (packets : List Arrival) (f : Finding) → Steady 0 packets → Finds packets f → first_break empty_buffer packets ≡ f
finds_first packets passes s k = ap (first_break empty_buffer) (sym (append-nil packets)) ∙ skip [] empty_buffer packets [] tracks_none (rw append-nil s) k
finds_first packets (overruns i) s d =
    skipped TooHigh packets i d s ∙ rw (high_test d.earlier (before TooHigh packets i d s) d.packet (reached TooHigh packets i d s) (comes TooHigh packets i d s) d.breaks)
    (ap overruns d.index)
finds_first packets (lingers i) s d =
    let t = late_tests d.earlier (before TooLate packets i d s) d.packet (reached TooLate packets i d s) (comes TooLate packets i d s) d.breaks in
    skipped TooLate packets i d s ∙ rw (t.0, t.1) (ap lingers d.index)

-- ---- something is found
from : (earlier : List Arrival) (b : Buffer) (rest : List Arrival) → Tracks earlier b → Steady b.tick rest → Along KeepsRules [] earlier
    → (f : Finding) × Finds (earlier ++ rest) f
from earlier b [] h s k = (passes, rw append-nil k)
from earlier b (a ∷ rest) h s k =
    go (is_too_high (arrive b a.tick)) (is_too_late (arrive b a.tick)) refl refl (from (up_to earlier a) (arrive b a.tick) rest (tracks_next earlier b a h s.0) s.1)
  where
    go : (high late : Bool) → is_too_high (arrive b a.tick) ≡ high → is_too_late (arrive b a.tick) ≡ late
        → (Along KeepsRules [] (up_to earlier a) → (f : Finding) × Finds (up_to earlier a ++ rest) f) → (f : Finding) × Finds (earlier ++ a ∷ rest) f
    go true late e l on =
        (overruns a.index, record { earlier = earlier; packet = a; later = rest; split = refl; index = refl; kept = k; breaks = test_high earlier b a h s.0 e })
    go false true e l on =
        (lingers a.index, record { earlier = earlier; packet = a; later = rest; split = refl; index = refl; kept = k; breaks = tests_late earlier b a h s.0 e l })
    go false false e l on = rw append_snoc at (on (along_more KeepsRules [] earlier a k (tests_keep earlier b a h s.0 e l)))

-- and it is what `first_break` tells
pub first_finds : (packets : List Arrival) → Steady 0 packets → Finds packets (first_break empty_buffer packets)
first_finds packets s =
    let found = from [] empty_buffer packets tracks_none s tt in
    rw (finds_first packets found.0 s found.1) found.1

-- ---- the verdict
-- what is told where a tick goes back, and where none does
pub told_by : (pid : ℕ) (rs : List Record) (back : Bool) → goes_back 0 (arrivals pid 0 rs) ≡ back
    → verdict_of pid rs ≡ cond back (refused 70) (given (first_break empty_buffer (arrivals pid 0 rs)))
told_by pid rs back e = rw e

pub refused_exactly : (pid : ℕ) (rs : List Record) (n : ℕ) → (verdict_of pid rs ≡ refused n) ↔ ((n ≡ 70) × Falls (arrivals pid 0 rs))
refused_exactly pid rs n = (λ e. there e (goes_back 0 (arrivals pid 0 rs)) refl, λ f. back f (goes_back 0 (arrivals pid 0 rs)) refl)
  where
    there : verdict_of pid rs ≡ refused n → (b : Bool) → goes_back 0 (arrivals pid 0 rs) ≡ b → (n ≡ 70) × Falls (arrivals pid 0 rs)
    there e true g = (refused_same (sym e ∙ told_by pid rs true g), test_falls (arrivals pid 0 rs) g)
    there e false g = absurd (given_apart (sym (told_by pid rs false g) ∙ e))

    back : (n ≡ 70) × Falls (arrivals pid 0 rs) → (b : Bool) → goes_back 0 (arrivals pid 0 rs) ≡ b → verdict_of pid rs ≡ refused n
    back f true g = told_by pid rs true g ∙ ap refused (sym f.0)
    back f false g = absurd (falls_not 0 (arrivals pid 0 rs) f.1 (test_steady 0 (arrivals pid 0 rs) g))

pub given_exactly : (pid : ℕ) (rs : List Record) (f : Finding) → (verdict_of pid rs ≡ given f) ↔ (Rises (arrivals pid 0 rs) × Finds (arrivals pid 0 rs) f)
given_exactly pid rs f = (λ e. there e (goes_back 0 (arrivals pid 0 rs)) refl, back)
  where
    there : verdict_of pid rs ≡ given f → (b : Bool) → goes_back 0 (arrivals pid 0 rs) ≡ b → Rises (arrivals pid 0 rs) × Finds (arrivals pid 0 rs) f
    there e true g = absurd (given_apart (sym e ∙ told_by pid rs true g))
    there e false g =
        let same = given_same (sym (told_by pid rs false g) ∙ e) in
        let s = test_steady 0 (arrivals pid 0 rs) g in
        (steady_rises 0 (arrivals pid 0 rs) s, rw same at (first_finds (arrivals pid 0 rs) s))

    back : Rises (arrivals pid 0 rs) × Finds (arrivals pid 0 rs) f → verdict_of pid rs ≡ given f
    back d =
        let s = rises_steady (arrivals pid 0 rs) d.0 in
        told_by pid rs false (steady_test 0 (arrivals pid 0 rs) s) ∙ ap given (finds_first (arrivals pid 0 rs) f s d.1)
