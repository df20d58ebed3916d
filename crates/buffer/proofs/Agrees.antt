-- The walk's verdict is the ticket's: after some records either no rule is broken yet, and what is kept is the buffer, or the verdict is settled, and only a tick below the one before counts.
-- Assumes nothing.
use mathlib.Core.Path.{◌≡◌, refl, sym, ◌∙◌}
use mathlib.Core.Bool.{Bool, true, false, cond, ◌||◌}
use mathlib.Core.List.{List, [], ◌∷◌}
use Prim.Native.Nat.{ℕ, suc, ◌+◌, ◌≤◌}
use borrow.Author.Tests.{ltb-false}
use lib.Dec.{ltb, eqb}
use Rattle.std.specs.Prelude.{Ok, Err}
use Rattle.ground.specs.Answer.{Answer, refused, given}
use Rattle.ground.proofs.Test.{either_way}
use Rattle.std.specs.declared.result.Result.{Result}
use Rattle.ground.specs.declared.Refusal.{Refusal}
use Rattle.ground.specs.declared.Refusal.TheVariants as refusal
use Rattle.buffer.specs.Verdict.{Finding, overruns, lingers, told_verdict, Arrival, arrivals, goes_back, Buffer, empty_buffer, left_at, arrive, is_too_high, is_too_late, first_break, verdict_of}
use Rattle.buffer.specs.Model.{begin_of, left_of, busy_with, moved, filled, arrived_at, came_after, step_of, walked}
use Rattle.buffer.specs.declared.Record.{Record}
use Rattle.buffer.specs.declared.Verdict.{Verdict}
use Rattle.buffer.specs.declared.Verdict.TheVariants as verdict
use Rattle.buffer.specs.declared.model.Judging.{Judging}
use Rattle.buffer.proofs.Busy.{Busy, busy_none, busy_next, late_by_count}

-- ---- one record
-- of another PID
other : (j : Judging) (i t p : ℕ) → eqb p j.pid ≡ false → step_of j i t p ≡ j
unfolding step_of
other j i t p e = rw e

-- of the PID, by whether its tick is below the one before
own : (j : Judging) (i t p : ℕ) (low : Bool) → eqb p j.pid ≡ true → ltb t j.last ≡ low
    → step_of j i t p ≡ cond low (moved j t (Err refusal.TickOrder)) (came_after j i t j.verdict)
unfolding step_of
own j i t p low e f = rw (e, f)

-- ---- what is said after some records, where a tick may still go back
abbrev said : Judging → ℕ → List Record → Answer Finding
said j i rs = told_verdict (walked j i rs).verdict

abbrev unless_back : ℕ → List Arrival → Answer Finding → Answer Finding
unless_back t packets a = cond (goes_back t packets) (refused 70) a

-- one record, and what is said after it: X is what the packets bring where no tick goes back
module _ (j : Judging) (i : ℕ) (r : Record) (rs : List Record) (X : List Arrival → Answer Finding) where
  abbrev t : ℕ
  t = r.tick

  abbrev more : List Arrival
  more = arrivals j.pid (suc i) rs

  abbrev all : List Arrival
  all = record { index = i; tick = t } ∷ more

  one_more : said (moved j t (Err refusal.TickOrder)) (suc i) rs ≡ refused 70
      → (j.last ≤ t → said (came_after j i t j.verdict) (suc i) rs ≡ unless_back t more (X all))
      → said j (suc i) rs ≡ unless_back j.last more (X more)
      → said j i (r ∷ rs) ≡ unless_back j.last (arrivals j.pid i (r ∷ rs)) (X (arrivals j.pid i (r ∷ rs)))
  unfolding walked
  one_more gone on skip = go (eqb r.pid.0 j.pid) refl
    where
      below : (low : Bool) → ltb t j.last ≡ low → eqb r.pid.0 j.pid ≡ true
          → said (step_of j i t r.pid.0) (suc i) rs ≡ cond (low || goes_back t more) (refused 70) (X all)
      below true f e = rw (own j i t r.pid.0 true e f) gone
      below false f e = rw (own j i t r.pid.0 false e f) (on (ltb-false t j.last f))

      go : (b : Bool) → eqb r.pid.0 j.pid ≡ b
          → said (step_of j i t r.pid.0) (suc i) rs ≡ unless_back j.last (cond b all more) (X (cond b all more))
      go true e = below (ltb t j.last) refl e
      go false e = rw (other j i t r.pid.0 e) skip

-- ---- the verdict is settled: no packet changes it
abbrev Settled : Result Verdict Refusal → Type 0
Settled v = (j : Judging) (i t : ℕ) → came_after j i t v ≡ moved j t v

settled : (j : Judging) (i : ℕ) (rs : List Record) → Settled j.verdict → said j i rs ≡ unless_back j.last (arrivals j.pid i rs) (told_verdict j.verdict)
unfolding walked
settled j i [] s = refl
settled j i (r ∷ rs) s =
    one_more j i r rs (λ _. told_verdict j.verdict)
    (settled (moved j r.tick (Err refusal.TickOrder)) (suc i) rs (λ k n u. refl) ∙ either_way (goes_back r.tick (arrivals j.pid (suc i) rs)) (refused 70))
    (λ _. rw (s j i r.tick) (settled (moved j r.tick j.verdict) (suc i) rs s))
    (settled j (suc i) rs s)

-- ---- no rule is broken yet
abbrev running : ℕ → Buffer → ℕ → Judging
running pid b m = record { pid = pid; last = b.tick; level = b.level; busy = m; verdict = Ok verdict.Passes }

-- a packet, by the two tests
by_tests : (j : Judging) (i t : ℕ) (high late : Bool) → ltb 55296 (left_of j t + 20304) ≡ high → ltb 1329 (busy_with (left_of j t) j.busy) ≡ late
    → arrived_at j i t ≡ cond high (moved j t (Ok (verdict.Overruns i))) (cond late (moved j t (Ok (verdict.Lingers i))) (filled j t))
unfolding arrived_at
by_tests j i t high late e f = rw (e, f)

runs : (pid : ℕ) (b : Buffer) (m i : ℕ) (rs : List Record) → Busy b m
    → said (running pid b m) i rs ≡ unless_back b.tick (arrivals pid i rs) (given (first_break b (arrivals pid i rs)))
unfolding walked
runs pid b m i [] h = refl
runs pid b m i (r ∷ rs) h =
    one_more j i r rs (λ packets. given (first_break b packets))
    (settled (moved j t (Err refusal.TickOrder)) (suc i) rs (λ k n u. refl) ∙ either_way (goes_back t (arrivals pid (suc i) rs)) (refused 70))
    (λ k. came k (is_too_high (arrive b t)) (is_too_late (arrive b t)) refl refl (runs pid (arrive b t) (busy_with (left_at b t) m) (suc i) rs (busy_next b t m h k)))
    (runs pid b m (suc i) rs h)
  where
    j : Judging
    j = running pid b m

    t : ℕ
    t = r.tick

    count : b.tick ≤ t → ltb 1329 (busy_with (left_at b t) m) ≡ is_too_late (arrive b t)
    count k = sym (late_by_count (arrive b t) (busy_with (left_at b t) m) (busy_next b t m h k))

    came : b.tick ≤ t → (high late : Bool) → is_too_high (arrive b t) ≡ high → is_too_late (arrive b t) ≡ late
        → said (running pid (arrive b t) (busy_with (left_at b t) m)) (suc i) rs ≡ unless_back t (arrivals pid (suc i) rs) (given (first_break (arrive b t) (arrivals pid (suc i) rs)))
        → said (arrived_at j i t) (suc i) rs
        ≡ unless_back t (arrivals pid (suc i) rs) (given (cond high (overruns i) (cond late (lingers i) (first_break (arrive b t) (arrivals pid (suc i) rs)))))
    came k true late e f on = rw (by_tests j i t true late e (count k ∙ f)) (settled (moved j t (Ok (verdict.Overruns i))) (suc i) rs (λ x n u. refl))
    came k false true e f on = rw (by_tests j i t false true e (count k ∙ f)) (settled (moved j t (Ok (verdict.Lingers i))) (suc i) rs (λ x n u. refl))
    came k false false e f on = rw (by_tests j i t false false e (count k ∙ f)) on

pub agrees : (pid : ℕ) (rs : List Record) → told_verdict (walked (begin_of pid) 0 rs).verdict ≡ verdict_of pid rs
agrees pid rs = runs pid empty_buffer 0 0 rs busy_none
