-- Where a call gives a difference, both values are in range and the laws of any modulus hold of it; and below the turn only one number leads from the one to the other.
-- Assumes nothing.
use Rattle.std.proofs.Common.{◌≡◌, ℕ, zero, suc, ◌-◌, ◌*◌, ◌%◌, ◌^◌, ◌<◌, Bool, true, false, ltb, leb, List, [], ◌∷◌, ℤ, pos, neg_ℤ, sym, refl, ap, ◌∙◌, le_of_lt, mod-lt, mod-eq_of_lt, zero-lt-suc, arith, lit<, ltb-false, ltb-true, leb-false}
use native.Mathlib.Nat.{zero-mod, mod-zero, add-mod-mod}
use lib.IntN.{pos-ne-negsuc, ℤ_discrete}
use borrow.Author.Tests.{lt-leb}
use Rattle.ground.specs.Answer.{Answer, refused, given}
use Rattle.ground.specs.Refusal.{Row, judge, ◌when◌}
use Rattle.ground.specs.Walk.{total}
use Rattle.ground.proofs.Answer.{given_same}
use Rattle.ground.proofs.Judged.{given_by}
use Rattle.ground.proofs.Refused.{accepted}
use Rattle.clock.specs.Modulus.{minus_mod}
use Rattle.clock.specs.Range.{stamp_turn, reference_turn}
use Rattle.clock.specs.Difference.{stamp_difference}
use Rattle.clock.specs.Sums.{signed_mod, signed_way, ToldInRange, TellSame, ForwardSums, Interval, last_along, IntervalsAddUp, SignedSums, ClockSums}
use Rattle.clock.proofs.Modulus.{around, minus_self, minus_sum}
use Rattle.clock.proofs.Turn.{in_turn}
use Rattle.clock.proofs.SignedSum.{signed_way_lem, signed_within, signed_self, signed_sum, signed_exchanged, signed_stays}

-- ---- a difference by the table of both calls
module _ {A : Type 0} (turn : ℕ) (way : ℕ → ℕ → A) where
  abbrev rows : ℕ → ℕ → List Row
  rows a b = (40 when leb turn a) ∷ (40 when leb turn b) ∷ []

  abbrev difference : ℕ → ℕ → Answer A
  difference a b = judge refused (rows a b) (given (way a b))

  is_given_lem : (a b : ℕ) → a < turn → b < turn → difference a b ≡ given (way a b)
  is_given_lem a b h l = accepted refused (given (way a b)) (rows a b) (lt-leb turn a h, (lt-leb turn b l, tt))

  was_given : (a b : ℕ) (x : A) → difference a b ≡ given x → (a < turn) × (b < turn) × (x ≡ way a b)
  was_given a b x e = let found = given_by (rows a b) (way a b) x e in (leb-false turn a found.0.0, leb-false turn b found.0.1.0, found.1)

  told_in_range : ToldInRange turn difference
  told_in_range a b = (λ e. let found = was_given a b e.0 e.1 in (found.0, found.1), λ r. (way a b, is_given_lem a b r.0 r.1))

-- ---- forward
forward_sums : (turn : ℕ) → ForwardSums turn (difference turn (minus_mod turn))
forward_sums turn =
    record {
      forward_told = told_in_range turn (minus_mod turn);
      forward_leads = λ a b x e.
          let found = was_given turn (minus_mod turn) a b x e in
          rw found.2 ((around turn).below a b (omega arith), (in_turn turn).back a b found.0 found.1);
      forward_sum = λ a b c x y e f.
          let first = was_given turn (minus_mod turn) b a x e in
          let second = was_given turn (minus_mod turn) c b y f in
          rw (first.2, second.2, minus_sum turn a b c (omega arith)) (is_given_lem turn (minus_mod turn) c a second.0 first.1);
      forward_self = λ a h. is_given_lem turn (minus_mod turn) a a h h ∙ ap given ((in_turn turn).self a h);
    }

-- any number of intervals: the first, and then the others as one
intervals_add_up : (turn : ℕ) (forward : ℕ → ℕ → Answer ℕ) → ForwardSums turn forward → IntervalsAddUp turn forward
intervals_add_up turn forward sums a [] h told = sums.forward_self a h ∙ ap given (sym (zero-mod turn))
intervals_add_up turn forward sums a (i ∷ later) h told =
    let range = (sums.forward_told i.to a).0 (i.way, told.0) in
    let rest = intervals_add_up turn forward sums i.to later range.0 told.1 in
    sums.forward_sum a i.to (last_along i.to later) i.way _ told.0 rest
    ∙ ap given (add-mod-mod i.way (total (λ (j : Interval). j.way) later) turn)

-- ---- signed
signed_sums : (half : ℕ) → SignedSums half (difference (2 * half) (signed_mod half))
signed_sums half =
    record {
      apart_told = told_in_range (2 * half) (signed_mod half);
      apart_way = λ a b d e.
          let found = was_given (2 * half) (signed_mod half) a b d e in
          found.2 ∙ signed_way_lem half (omega arith) a b;
      apart_lies = λ a b d e.
          let found = was_given (2 * half) (signed_mod half) a b d e in
          rw found.2 (signed_within half (omega arith) a b);
      apart_sum = λ a b c x y e f.
          let first = was_given (2 * half) (signed_mod half) b a x e in
          let second = was_given (2 * half) (signed_mod half) c b y f in
          rw (first.2, second.2)
          (is_given_lem (2 * half) (signed_mod half) c a second.0 first.1 ∙ ap given (signed_sum half (omega arith) a b c (omega arith)));
      apart_self = λ a h. is_given_lem (2 * half) (signed_mod half) a a h h ∙ ap given (signed_self half (omega arith) a (omega arith));
      apart_exchanged = λ a b d e other.
          let found = was_given (2 * half) (signed_mod half) a b d e in
          rw found.2
          (is_given_lem (2 * half) (signed_mod half) b a found.1 found.0
          ∙ ap given (signed_exchanged half (omega arith) a b (omega arith) (omega arith) (λ f. other (found.2 ∙ f))));
      apart_stays = λ a b d e f.
          let found = was_given (2 * half) (signed_mod half) a b d e in
          is_given_lem (2 * half) (signed_mod half) b a found.1 found.0
          ∙ ap given (signed_stays half (omega arith) a b (omega arith) (omega arith) (sym found.2 ∙ f) ∙ sym f);
    }

-- ---- nothing else would do
-- a remainder that leaves the last value alone and takes a whole turn to 0 is by the turn
turn_only : (turn n : ℕ) → 0 < turn → (turn - 1) % n ≡ turn - 1 → turn % n ≡ 0 → n ≡ turn
turn_only turn zero h e f = absurd (omega (arith, mod-zero turn))
turn_only turn (suc n) h e f = go (ltb turn (suc n)) refl
  where
    go : (t : Bool) → ltb turn (suc n) ≡ t → suc n ≡ turn
    go true g = absurd (omega (arith, mod-eq_of_lt (ltb-true turn (suc n) g)))
    go false g = let l = ltb-false turn (suc n) g in omega (arith, mod-lt (turn - 1) (zero-lt-suc n))

-- at half a turn the sign does not change
exception_only : (e : ℤ) → ((a b : ℕ) (d : ℤ) → stamp_difference a b ≡ given d → (d ≡ e → ⊥) → stamp_difference b a ≡ given (neg_ℤ d)) → e ≡ neg_ℤ (pos (2 ^ 32))
exception_only e changes = go (ℤ_discrete e (neg_ℤ (pos (2 ^ 32))))
  where
    go : Dec (e ≡ neg_ℤ (pos (2 ^ 32))) → e ≡ neg_ℤ (pos (2 ^ 32))
    go (yes same) = same
    go (no other) =
        absurd (pos-ne-negsuc (2 ^ 32) (2 ^ 32 - 1) (sym (given_same (changes (2 ^ 32) 0 (neg_ℤ (pos (2 ^ 32))) refl (λ q. other (sym q))))))

-- differences that are told in one range, and each as one definition says
module _ {A : Type 0} (turn : ℕ) (way : ℕ → ℕ → A) where
  abbrev Fixed : (ℕ → ℕ → Answer A) → Type 0
  Fixed difference = ToldInRange turn difference × ((a b : ℕ) (x : A) → difference a b ≡ given x → x ≡ way a b)

  one_way : (difference other : ℕ → ℕ → Answer A) → Fixed difference → Fixed other → (a b : ℕ) (x : A) → difference a b ≡ given x → other a b ≡ given x
  one_way difference other f g a b x e =
      let found = (g.0 a b).1 ((f.0 a b).0 (x, e)) in
      found.1 ∙ ap given (g.1 a b found.0 found.1 ∙ sym (f.1 a b x e))

  tell_same : (difference other : ℕ → ℕ → Answer A) → Fixed difference → Fixed other → TellSame difference other
  tell_same difference other f g a b x = (one_way difference other f g a b x, one_way other difference g f a b x)

-- what leads from b to a below the turn is the way
forward_fixed : (turn : ℕ) (difference : ℕ → ℕ → Answer ℕ) → ForwardSums turn difference → Fixed turn (minus_mod turn) difference
forward_fixed turn difference sums = (sums.forward_told, is)
  where
    is : (a b x : ℕ) → difference a b ≡ given x → x ≡ minus_mod turn a b
    is a b x e =
        let ranges = (sums.forward_told a b).0 (x, e) in
        let leads = sums.forward_leads a b x e in
        (around turn).only a b x (omega arith) leads.0 (leads.1 ∙ sym (mod-eq_of_lt ranges.0))

pub clock_sums : ClockSums
clock_sums =
    record {
      leads = λ m. (around m).back;
      sum = minus_sum;
      self = minus_self;
      signed = signed_way_lem;
      exchanged = λ half a b h l. signed_exchanged half (omega arith) a b (omega arith) (omega arith);
      stays = λ half a b h l. signed_stays half (omega arith) a b (omega arith) (omega arith);
      references = forward_sums reference_turn;
      along = intervals_add_up;
      stamp_sum = λ a b c h. minus_sum stamp_turn a b c (le_of_lt h);
      stamp_self = (in_turn stamp_turn).self;
      stamps = signed_sums (2 ^ 32);
      turn_only = λ n adds.
          turn_only reference_turn n (lit< tt) (sym (given_same (adds 0 0 (reference_turn - 1) 0 (reference_turn - 1) refl refl)))
          (sym (given_same (adds 0 1 0 1 (reference_turn - 1) refl refl)));
      exception_only = exception_only;
      only_forward = λ turn difference other f g. tell_same turn (minus_mod turn) difference other (forward_fixed turn difference f) (forward_fixed turn other g);
      only_signed = λ half difference other f g.
          tell_same (2 * half) (λ a b. signed_way half (minus_mod (2 * half) a b)) difference other (f.apart_told, f.apart_way) (g.apart_told, g.apart_way);
    }
