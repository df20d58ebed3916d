-- A record is given where no row applies: then the stretch has a rate, which is a finite double, and the record stays in order.
-- Assumes nothing.
use Rattle.std.specs.Prelude.{None, Some}
use mathlib.Core.Path.{◌≡◌, refl, sym, ◌∙◌, ap}
use mathlib.Core.Bool.{Bool, true, false, cond, not, false≢true}
use mathlib.Core.Logic.{◌⊎◌, inl, inr}
use Prim.Native.Nat.{ℕ, ◌+◌, ◌*◌, ◌%◌, ◌^◌, ◌≤◌, ◌<◌}
use native.Mathlib.Nat.{mul-le-mul, mul-le-mul_right, pos_of_ne-zero, mod-eq_of_lt, le_of_lt, zero-add, mod-lt}
use native.Mathlib.Omega.{arith}
use lib.Dec.{leb, eqb, lit<}
use lib.IntN.{ℤ}
use lib.Ieee.{Float, nan, inf, fin, binary64, lt, le, is_nan}
use lib.Ieee.Bits.{is_true}
use lib.Ieee.Exact.{HasValue}
use lib.Ieee.Order.{round_mono}
use lib.Ieee.Scale.{grid, round_under, round_val}
use borrow.Author.Tests.{ltb-false, lt-ltb, le-ltb, leb-false, le-leb, lt-leb, eqb-false, eq-eqb, ne_eqb, not-false}
use Rattle.ground.specs.Answer.{Answer, refused, given}
use Rattle.ground.proofs.Answer.{given_apart, refused_same}
use Rattle.ground.proofs.Judged.{given_by, judge_ind}
use Rattle.ground.proofs.Refused.{accepted}
use Rattle.ground.proofs.Test.{both_true, true_both, either_way}
use Rattle.clock.specs.Range.{reference_turn}
use Rattle.clock.specs.Difference.{reference_forward_refusals, reference_forward}
use Rattle.clock.proofs.ClockSums.{clock_sums}
use Rattle.rates.specs.Rate.{byte_rate, ticks_of, is_ordered, is_unordered, lower, higher, with_rate, rate_refusals}
use Rattle.rates.specs.Laws.{Stretch, Ordered, HasRate, rate_along, rated_with}
use Rattle.rates.specs.declared.Rates.{Rates}
use Rattle.std.specs.declared.option.Option.{Option}
use Rattle.rates.proofs.Doubles.{not_lt_le, le_self, left_no_nan, right_no_nan}
use Rattle.rates.proofs.Nearest.{round_finite}

-- ---- the ticks
abbrev ticks_in : Stretch → ℕ
ticks_in s = ticks_of s.later s.earlier

-- of two references in range the clock tells them
pub forward_told : (s : Stretch) → s.later < reference_turn → s.earlier < reference_turn → reference_forward s.later s.earlier ≡ given (ticks_in s)
forward_told s l e =
    accepted refused (given (ticks_in s)) (reference_forward_refusals s.later s.earlier)
    (lt-leb reference_turn s.later l, (lt-leb reference_turn s.earlier e, tt))

-- and where the two differ they are not 0
some_ticks : (s : Stretch) → HasRate s → ticks_in s ≡ 0 → ⊥
some_ticks s h z =
    let leads = (clock_sums.references.forward_leads s.later s.earlier (ticks_in s) (forward_told s h.later_in_range h.earlier_in_range)).1 in
    h.differ (sym leads ∙ ap (λ (t : ℕ). t % reference_turn) (ap (λ (t : ℕ). t + s.earlier) z ∙ zero-add s.earlier) ∙ mod-eq_of_lt h.earlier_in_range)

-- so above 0
pub ticks_pos : (s : Stretch) → HasRate s → 0 < ticks_in s
ticks_pos s h = pos_of_ne-zero (some_ticks s h)

-- where the two are equal they are 0
no_ticks : (s : Stretch) → s.earlier < reference_turn → s.later ≡ s.earlier → ticks_in s ≡ 0
no_ticks s h same = ap (λ (l : ℕ). ticks_of l s.earlier) same ∙ clock_sums.self reference_turn s.earlier (le_of_lt h)

-- they are below the turn, so a double exactly
pub ticks_small : (s : Stretch) → ticks_in s < 2 ^ 53
ticks_small s = let below : ticks_in s < reference_turn = mod-lt _ (lit< tt) in omega arith

-- ---- the rate
-- what has a value that is not negative is such a number
number_of : (x : Float) (a c : ℕ) → HasValue x false a c → (m : ℕ) × (e : ℤ) × (x ≡ fin false m e)
number_of nan a c v = absurd v
number_of (inf s) a c v = absurd v
number_of (fin s m e) a c v = (m, e, ap (λ (b : Bool). fin b m e) v.0)

-- a rate is one
pub rate_number : (bytes ticks : ℕ) → bytes ≤ 333599972 → 0 < ticks → (m : ℕ) × (e : ℤ) × (byte_rate bytes ticks ≡ fin false m e)
rate_number bytes ticks h p =
    let n = bytes * 27000000 in
    number_of (byte_rate bytes ticks) (grid binary64 n ticks) _
    (round_val binary64 n ticks (round_under binary64 n ticks (round_finite binary64 n ticks (omega arith) p)))

-- so no NaN
pub rate_no_nan : (bytes ticks : ℕ) → bytes ≤ 333599972 → 0 < ticks → is_nan (byte_rate bytes ticks) ≡ false
unfolding is_nan
rate_no_nan bytes ticks h p = ap is_nan (rate_number bytes ticks h p).2

-- n / d is at most m / c where its numerator is no more and its denominator no less
pub rate_rises : (bytes more ticks fewer : ℕ) → bytes ≤ more → fewer ≤ ticks → 0 < fewer → le (byte_rate bytes ticks) (byte_rate more fewer) ≡ true
rate_rises bytes more ticks fewer h k p =
    is_true _
    (round_mono binary64 (bytes * 27000000) ticks (more * 27000000) fewer (omega arith) p
    (mul-le-mul (mul-le-mul_right 27000000 h) k))

-- ---- the test of a record's order
pub record_order : (r : Rates) → is_ordered r ≡ true → Ordered (Some r)
record_order r e = both_true (le r.lowest r.latest) (le r.latest r.highest) e

-- it is passed exactly where the order is there
pub passes_order : (k : Option Rates) → is_unordered k ≡ false → Ordered k
passes_order None e = tt
passes_order (Some r) e = record_order r (not-false (is_ordered r) e)

pub order_passes : (k : Option Rates) → Ordered k → is_unordered k ≡ false
order_passes None o = refl
order_passes (Some r) o = ap not (true_both (le r.lowest r.latest) (le r.latest r.highest) o.0 o.1)

pub unordered_fails : (k : Option Rates) → (Ordered k → ⊥) → is_unordered k ≡ true
unordered_fails k never = go (is_unordered k) refl
  where
    go : (b : Bool) → is_unordered k ≡ b → is_unordered k ≡ true
    go true e = e
    go false e = absurd (never (passes_order k e))

-- ---- the record
-- it is given with no row, and the rows say that the stretch has a rate
pub given_has : (k : Option Rates) (s : Stretch) (r : Rates) → rated_with k s ≡ given r
    → (is_unordered k ≡ false) × HasRate s × (r ≡ with_rate k (rate_along s))
given_has k s r e =
    let found = given_by (rate_refusals k s.bytes s.later s.earlier) (with_rate k (rate_along s)) r e in
    let rows = found.0 in (
      rows.0,
      record {
        later_in_range = leb-false reference_turn s.later rows.1.0;
        earlier_in_range = leb-false reference_turn s.earlier rows.1.1.0;
        few_bytes = ltb-false 333599972 s.bytes rows.1.1.1.0;
        differ = λ same. eqb-false (ticks_in s) 0 rows.1.1.1.1.0 (no_ticks s (leb-false reference_turn s.earlier rows.1.1.0) same);
      },
      found.1,
    )

-- and back
pub has_given : (k : Option Rates) (s : Stretch) → is_unordered k ≡ false → HasRate s → rated_with k s ≡ given (with_rate k (rate_along s))
has_given k s e h =
    accepted refused (given (with_rate k (rate_along s))) (rate_refusals k s.bytes s.later s.earlier)
    (e, (lt-leb reference_turn s.later h.later_in_range, (lt-leb reference_turn s.earlier h.earlier_in_range, (le-ltb 333599972 s.bytes h.few_bytes, (ne_eqb (ticks_in s) 0 (some_ticks s h), tt)))))

-- ---- each refusal where the rows before it do not apply
module _ (k : Option Rates) (s : Stretch) (ordered : is_unordered k ≡ false) where
  pub range_refused : (reference_turn ≤ s.later) ⊎ (reference_turn ≤ s.earlier) → rated_with k s ≡ refused 40
  range_refused (inl h) = rw (ordered, le-leb reference_turn s.later h)
  range_refused (inr h) = rw (ordered, le-leb reference_turn s.earlier h) (either_way (leb reference_turn s.later) (refused 40))

  module _ (l : s.later < reference_turn) (e : s.earlier < reference_turn) where
    pub bytes_refused : 333599972 < s.bytes → rated_with k s ≡ refused 80
    bytes_refused h = rw (ordered, lt-leb reference_turn s.later l, lt-leb reference_turn s.earlier e, lt-ltb 333599972 s.bytes h)

    pub equal_refused : s.bytes ≤ 333599972 → s.later ≡ s.earlier → rated_with k s ≡ refused 81
    equal_refused h same =
        rw (ordered, lt-leb reference_turn s.later l, lt-leb reference_turn s.earlier e, le-ltb 333599972 s.bytes h, eq-eqb (ticks_in s) 0 (no_ticks s e same))

-- ---- in order
-- the lower of two is at most the new one, the higher at least
lower_most : (x old : Float) → is_nan x ≡ false → is_nan old ≡ false → le (lower x old) x ≡ true
lower_most x old p q = go (lt x old) refl
  where
    go : (b : Bool) → lt x old ≡ b → le (cond b x old) x ≡ true
    go true e = le_self x p
    go false e = not_lt_le x old p q e

higher_least : (x old : Float) → is_nan x ≡ false → is_nan old ≡ false → le x (higher x old) ≡ true
higher_least x old p q = go (lt old x) refl
  where
    go : (b : Bool) → lt old x ≡ b → le x (cond b x old) ≡ true
    go true e = le_self x p
    go false e = not_lt_le old x q p e

-- so a record in order with a rate more is in order
with_ordered : (k : Option Rates) (x : Float) → is_unordered k ≡ false → is_nan x ≡ false → is_ordered (with_rate k x) ≡ true
with_ordered None x e p = true_both (le x x) (le x x) (le_self x p) (le_self x p)
with_ordered (Some r) x e p =
    let order = passes_order (Some r) e in
    true_both (le (lower x r.lowest) x) (le x (higher x r.highest))
    (lower_most x r.lowest p (left_no_nan r.lowest r.latest order.0))
    (higher_least x r.highest p (right_no_nan r.latest r.highest order.1))

-- a record that was given is in order
pub given_ordered : (k : Option Rates) (s : Stretch) (r : Rates) → rated_with k s ≡ given r → is_ordered r ≡ true
given_ordered k s r e =
    let found = given_has k s r e in
    rw found.2 (with_ordered k (rate_along s) found.0 (rate_no_nan s.bytes (ticks_in s) found.1.few_bytes (ticks_pos s found.1)))

-- so none of its doubles is a NaN
pub ordered_numbers : (r : Rates) → is_ordered r ≡ true → (is_nan r.lowest ≡ false) × (is_nan r.latest ≡ false) × (is_nan r.highest ≡ false)
ordered_numbers r e =
    let order = both_true (le r.lowest r.latest) (le r.latest r.highest) e in (
      left_no_nan r.lowest r.latest order.0,
      left_no_nan r.latest r.highest order.1,
      right_no_nan r.latest r.highest order.1,
    )

-- and the next call does not refuse it: no other row has that number
pub ordered_goes_on : (r : Rates) (s : Stretch) → is_ordered r ≡ true → rated_with (Some r) s ≡ refused 82 → ⊥
ordered_goes_on r s o =
    judge_ind refused (λ (a : Answer Rates). a ≡ refused 82 → ⊥) (rate_refusals (Some r) s.bytes s.later s.earlier) _
    (λ e f. false≢true (sym (ap not o) ∙ e), (λ e. other 40 refl, (λ e. other 40 refl, (λ e. other 80 refl, (λ e. other 81 refl, tt)))))
    (λ e f. given_apart f)
  where
    other : (n : ℕ) → eqb n 82 ≡ false → ◌≡◌ {A = Answer Rates} (refused n) (refused 82) → ⊥
    other n e f = eqb-false n 82 e (refused_same f)
