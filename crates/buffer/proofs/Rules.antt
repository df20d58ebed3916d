-- The two tests on the buffer are the two rules tick by tick.
-- Assumes nothing.
use mathlib.Core.Path.{◌≡◌, refl, sym, ◌∙◌, ap}
use mathlib.Core.Bool.{Bool, true, false}
use mathlib.Core.List.{List, [], ◌∷◌, ◌++◌}
use Prim.Native.Nat.{ℕ, suc, ◌+◌, ◌-◌, ◌≤◌, ◌<◌}
use native.Mathlib.Omega.{arith}
use borrow.Author.Tests.{lt-ltb, le-ltb, ltb-true, ltb-false}
use Rattle.buffer.specs.Verdict.{Arrival, Buffer, arrive, is_too_high, is_too_late}
use Rattle.buffer.specs.Ticks.{level_at, up_to, ticks_of, left_by, LastEmpty, AtTheEnd, KeepsRules, TooHigh, TooLate}
use Rattle.buffer.proofs.Tracked.{Tracks, tracks_next, tracked, left_is}
use Rattle.buffer.proofs.LastEmpty.{last_empty, told_last}

last_up_to : (earlier : List Arrival) (a : Arrival) → (e : Arrival) × LastEmpty (up_to earlier a) e
last_up_to [] a = last_empty a []
last_up_to (x ∷ earlier) a = last_empty x (earlier ++ a ∷ [])

module _ (earlier : List Arrival) (b : Buffer) (a : Arrival) (h : Tracks earlier b) (k : b.tick ≤ a.tick) where
  abbrev now : Buffer
  now = arrive b a.tick

  here : Tracks (up_to earlier a) now
  here = tracks_next earlier b a h k

  -- ---- the level
  pub high_test : TooHigh earlier a → is_too_high now ≡ true
  high_test l = let e = left_is earlier b a h k in lt-ltb 55296 now.level (omega arith)

  pub test_high : is_too_high now ≡ true → TooHigh earlier a
  test_high t = let e = left_is earlier b a h k in let l = ltb-true 55296 now.level t in omega arith

  pub low_test : left_by earlier a ≤ 55296 → is_too_high now ≡ false
  low_test l = let e = left_is earlier b a h k in le-ltb 55296 now.level (omega arith)

  pub test_low : is_too_high now ≡ false → left_by earlier a ≤ 55296
  test_low t = let e = left_is earlier b a h k in let l = ltb-false 55296 now.level t in omega arith

  -- ---- the drain: what is left in the end
  abbrev in_the_end : ℕ
  in_the_end = level_at (ticks_of (up_to earlier a)) (now.since + 27000000)

  some_left : is_too_late now ≡ true → 0 < in_the_end
  some_left t = let l = ltb-true 27000000 (now.tick + now.level - now.since) t in here.busy (now.since + 27000000) (omega arith) (omega arith)

  none_left : is_too_late now ≡ false → in_the_end ≡ 0
  none_left t =
      let l = ltb-false 27000000 (now.tick + now.level - now.since) t in
      let e = here.early in
      let z = tracked (up_to earlier a) now (now.since + 27000000) here (omega arith) in
      omega arith

  -- whichever packet is the last that found the buffer empty
  since_is : (e : Arrival) → LastEmpty (up_to earlier a) e → level_at (ticks_of (up_to earlier a)) (e.tick + 27000000) ≡ in_the_end
  since_is e l =
      let since = ap (λ (c : Buffer). c.since) (sym here.is) ∙ (told_last (up_to earlier a) e l here.steady).1 in
      ap (λ (t : ℕ). level_at (ticks_of (up_to earlier a)) (t + 27000000)) (sym since)

  end_is : (level : ℕ) → AtTheEnd earlier a level → in_the_end ≡ level
  end_is level d = sym (since_is d.packet d.last) ∙ d.left

  end_of : (level : ℕ) → in_the_end ≡ level → AtTheEnd earlier a level
  end_of level e = let found = last_up_to earlier a in record { packet = found.0; last = found.1; left = since_is found.0 found.1 ∙ e }

  -- ---- both rules
  pub keeps_tests : KeepsRules earlier a → (is_too_high now ≡ false) × (is_too_late now ≡ false)
  keeps_tests keeps = (low_test keeps.low, go (is_too_late now) refl)
    where
      go : (late : Bool) → is_too_late now ≡ late → is_too_late now ≡ false
      go true e = let s = some_left e in let z = end_is 0 keeps.drained in absurd (omega arith)
      go false e = e

  pub tests_keep : is_too_high now ≡ false → is_too_late now ≡ false → KeepsRules earlier a
  tests_keep l d = record { low = test_low l; drained = end_of 0 (none_left d) }

  pub late_tests : TooLate earlier a → (is_too_high now ≡ false) × (is_too_late now ≡ true)
  late_tests late = (low_test late.low, go (is_too_late now) refl)
    where
      go : (late' : Bool) → is_too_late now ≡ late' → is_too_late now ≡ true
      go true e = e
      go false e = let z = none_left e in let s = end_is (suc late.rest) late.left in absurd (omega arith)

  pub tests_late : is_too_high now ≡ false → is_too_late now ≡ true → TooLate earlier a
  tests_late l d =
      let s = some_left d in
      record { low = test_low l; rest = in_the_end - 1; left = end_of (suc (in_the_end - 1)) (omega arith) }
