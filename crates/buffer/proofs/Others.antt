-- A verdict goes by the packets of the PID: their ticks in order, and of their indices only the one that it names.
-- Assumes nothing.
use mathlib.Core.Path.{◌≡◌, refl, sym, ◌∙◌, ap}
use mathlib.Core.Bool.{Bool, true, false, cond, ◌||◌}
use mathlib.Core.List.{List, [], ◌∷◌, ◌++◌, map, map-append, append-nil}
use Prim.Native.Nat.{ℕ, suc, ◌+◌, ◌≤◌}
use native.Mathlib.Omega.{arith}
use borrow.Author.Tests.{lt-ltb, le-ltb}
use lib.Dec.{ltb}
use lib.ListN.{length, length-append}
use lib.Seq.{append_snoc, take-append_seam}
use Rattle.ground.specs.Answer.{refused, given}
use Rattle.ground.specs.Walk.{count, keep, Every}
use Rattle.ground.proofs.Walk.{total-append}
use Rattle.buffer.specs.Verdict.{overruns, lingers, Arrival, is_of, arrivals, Buffer, empty_buffer, arrive, is_too_high, is_too_late, first_break, goes_back, verdict_of}
use Rattle.buffer.specs.Laws.{renamed, retold, own_before, moved_on}
use Rattle.buffer.specs.declared.Record.{Record}
use Rattle.buffer.proofs.Arrivals.{skips, arrivals-append}

-- ---- the same packets, their records with other indices
module _ (f : ℕ → ℕ) where
  abbrev with_index : Arrival → Arrival
  with_index a = record { index = f a.index; tick = a.tick }

  abbrev reindexed : List Arrival → List Arrival
  reindexed packets = map with_index packets

  same_back : (t : ℕ) (packets : List Arrival) → goes_back t (reindexed packets) ≡ goes_back t packets
  same_back t [] = refl
  same_back t (a ∷ packets) = ap (λ (b : Bool). ltb a.tick t || b) (same_back a.tick packets)

  same_break : (b : Buffer) (packets : List Arrival) → first_break b (reindexed packets) ≡ renamed f (first_break b packets)
  same_break b [] = refl
  same_break b (a ∷ packets) = go (is_too_high (arrive b a.tick)) (is_too_late (arrive b a.tick)) (same_break (arrive b a.tick) packets)
    where
      go : (high late : Bool) → first_break (arrive b a.tick) (reindexed packets) ≡ renamed f (first_break (arrive b a.tick) packets)
          → cond high (overruns (f a.index)) (cond late (lingers (f a.index)) (first_break (arrive b a.tick) (reindexed packets)))
          ≡ renamed f (cond high (overruns a.index) (cond late (lingers a.index) (first_break (arrive b a.tick) packets)))
      go true late e = refl
      go false true e = refl
      go false false e = e

  same_verdict : (pid : ℕ) (xs ys : List Record) → arrivals pid 0 ys ≡ reindexed (arrivals pid 0 xs) → verdict_of pid ys ≡ retold f (verdict_of pid xs)
  same_verdict pid xs ys e =
      rw (e, same_back 0 (arrivals pid 0 xs), same_break empty_buffer (arrivals pid 0 xs)) (go (goes_back 0 (arrivals pid 0 xs)))
    where
      go : (back : Bool)
          → cond back (refused 70) (given (renamed f (first_break empty_buffer (arrivals pid 0 xs))))
          ≡ retold f (cond back (refused 70) (given (first_break empty_buffer (arrivals pid 0 xs))))
      go true = refl
      go false = refl

-- ---- the packets of the PID alone
module _ (pid : ℕ) where
  abbrev own_in : List Record → ℕ
  own_in rs = count (is_of pid) rs

  -- rs behind front
  alone_from : (front rs : List Record) → arrivals pid (own_in front) (keep (is_of pid) rs) ≡ reindexed (own_before pid (front ++ rs)) (arrivals pid (length front) rs)
  alone_from front [] = refl
  alone_from front (r ∷ rs) = go (is_of pid r) refl (rw (append_snoc, size) at (alone_from (front ++ r ∷ []) rs))
    where
      size : length (front ++ r ∷ []) ≡ suc (length front)
      size = length-append front (r ∷ []) ∙ omega arith

      before : own_before pid (front ++ r ∷ rs) (length front) ≡ own_in front
      before = ap own_in (take-append_seam front (r ∷ rs))

      one : is_of pid r ≡ true → own_in (front ++ r ∷ []) ≡ suc (own_in front)
      one e = total-append (λ (x : Record). cond (is_of pid x) 1 0) front (r ∷ []) ∙ rw e (omega arith)

      none : is_of pid r ≡ false → own_in (front ++ r ∷ []) ≡ own_in front
      none e = total-append (λ (x : Record). cond (is_of pid x) 1 0) front (r ∷ []) ∙ rw e (omega arith)

      go : (b : Bool) → is_of pid r ≡ b
          → arrivals pid (own_in (front ++ r ∷ [])) (keep (is_of pid) rs) ≡ reindexed (own_before pid (front ++ r ∷ rs)) (arrivals pid (suc (length front)) rs)
          → arrivals pid (own_in front) (cond b (r ∷ keep (is_of pid) rs) (keep (is_of pid) rs))
          ≡ reindexed (own_before pid (front ++ r ∷ rs)) (cond b (record { index = length front; tick = r.tick } ∷ arrivals pid (suc (length front)) rs) (arrivals pid (suc (length front)) rs))
      go true e on = rw (e, before) (ap (λ (l : List Arrival). record { index = own_in front; tick = r.tick } ∷ l) (rw (one e) at on))
      go false e on = rw (none e) at on

  pub others : (xs ys : List Record) → keep (is_of pid) xs ≡ keep (is_of pid) ys → retold (own_before pid xs) (verdict_of pid xs) ≡ retold (own_before pid ys) (verdict_of pid ys)
  others xs ys e =
      sym (same_verdict (own_before pid xs) pid xs (keep (is_of pid) xs) (alone_from [] xs)) ∙ ap (verdict_of pid) e
      ∙ same_verdict (own_before pid ys) pid ys (keep (is_of pid) ys) (alone_from [] ys)

  -- ---- records of other PIDs between the others
  -- they bring no packet
  no_packet : (i : ℕ) (out : List Record) → Every (λ (r : Record). r.pid.0 ≡ pid → ⊥) out → arrivals pid i out ≡ []
  no_packet i [] n = refl
  no_packet i (r ∷ out) n = skips pid i r out n.0 ∙ no_packet (suc i) out n.1

  -- indices below n stay, and those from n on go up by k
  stays : (n k i : ℕ) (rs : List Record) → i + length rs ≤ n → reindexed (moved_on n k) (arrivals pid i rs) ≡ arrivals pid i rs
  stays n k i [] l = refl
  stays n k i (r ∷ rs) l = go (is_of pid r) (stays n k (suc i) rs (omega arith))
    where
      go : (b : Bool) → reindexed (moved_on n k) (arrivals pid (suc i) rs) ≡ arrivals pid (suc i) rs
          → reindexed (moved_on n k) (cond b (record { index = i; tick = r.tick } ∷ arrivals pid (suc i) rs) (arrivals pid (suc i) rs))
          ≡ cond b (record { index = i; tick = r.tick } ∷ arrivals pid (suc i) rs) (arrivals pid (suc i) rs)
      go true e = rw (lt-ltb i n (omega arith), e)
      go false e = e

  moves : (n k i : ℕ) (rs : List Record) → n ≤ i → reindexed (moved_on n k) (arrivals pid i rs) ≡ arrivals pid (i + k) rs
  moves n k i [] l = refl
  moves n k i (r ∷ rs) l = go (is_of pid r) (moves n k (suc i) rs (omega arith))
    where
      sum : suc i + k ≡ suc (i + k)
      sum = omega arith

      go : (b : Bool) → reindexed (moved_on n k) (arrivals pid (suc i) rs) ≡ arrivals pid (suc i + k) rs
          → reindexed (moved_on n k) (cond b (record { index = i; tick = r.tick } ∷ arrivals pid (suc i) rs) (arrivals pid (suc i) rs))
          ≡ cond b (record { index = i + k; tick = r.tick } ∷ arrivals pid (suc (i + k)) rs) (arrivals pid (suc (i + k)) rs)
      go true e = rw (le-ltb i n l) (ap (λ (l : List Arrival). record { index = i + k; tick = r.tick } ∷ l) (rw sum at e))
      go false e = rw sum at e

  pub put_in : (front out back : List Record) → Every (λ (r : Record). r.pid.0 ≡ pid → ⊥) out
      → verdict_of pid (front ++ out ++ back) ≡ retold (moved_on (length front) (length out)) (verdict_of pid (front ++ back))
  put_in front out back n = same_verdict (moved_on (length front) (length out)) pid (front ++ back) (front ++ out ++ back) (without ∙ sym within)
    where
      place : ℕ
      place = 0 + length front

      without : arrivals pid 0 (front ++ out ++ back) ≡ arrivals pid 0 front ++ arrivals pid (place + length out) back
      without =
          let size : 0 + length (front ++ out) ≡ place + length out = ap (λ (m : ℕ). 0 + m) (length-append front out) ∙ omega arith in
          rw (arrivals-append pid 0 (front ++ out) back, arrivals-append pid 0 front out, no_packet place out n, append-nil, size)

      within : reindexed (moved_on (length front) (length out)) (arrivals pid 0 (front ++ back)) ≡ arrivals pid 0 front ++ arrivals pid (place + length out) back
      within =
          rw (arrivals-append pid 0 front back, map-append (with_index (moved_on (length front) (length out))) (arrivals pid 0 front) (arrivals pid place back), stays (length front) (length out) 0 front (omega arith), moves (length front) (length out) place back (omega arith))
