-- Document 02, ticket 13, "Clock sums": intervals added around a turn, for any modulus and then for both clocks.
-- The goal comes first, as in the calls: minus_mod m a b is the way forward from b to a.
use Rattle.std.specs.Prelude.{◌≡◌, ℕ, ◌+◌, ◌*◌, ◌%◌, ◌^◌, ◌<◌, ◌≤◌, Bool, true, cond, ◌&&◌, ◌↔◌, List, [], ◌∷◌, ℤ, pos, ◌+ℤ◌, ◌-ℤ◌, neg_ℤ, ◌≢◌, int_le, int_lt, nat_lt}
use Rattle.ground.specs.Answer.{Answer, given}
use Rattle.ground.specs.Walk.{total}
use Rattle.clock.specs.Modulus.{minus_mod}
use Rattle.clock.specs.Range.{stamp_turn, reference_turn}
use Rattle.clock.specs.Difference.{stamp_difference, reference_forward}

-- ---- signed differences, for any half turn
-- the signed difference a − b, as document 01 has it of stamps: ((a − b + half) mod 2·half) − half
abbrev pub signed_mod : ℕ → ℕ → ℕ → ℤ
signed_mod half a b = pos (minus_mod (2 * half) (a + half) b) -ℤ pos half

-- the difference that a way forward is: the way itself where it is below half a turn, and else the way less a turn
abbrev pub signed_way : ℕ → ℕ → ℤ
signed_way half way = cond (nat_lt way half) (pos way) (pos way -ℤ pos (2 * half))

-- whether a number lies from −half to half − 1
abbrev pub is_within : ℕ → ℤ → Bool
is_within half d = int_le (neg_ℤ (pos half)) d && int_lt d (pos half)

-- whichever of s, s − 2·half and s + 2·half lies there, as one of them does where s is the sum of two such numbers
abbrev pub brought_back : ℕ → ℤ → ℤ
brought_back half s = cond (is_within half s) s (cond (is_within half (s -ℤ pos (2 * half))) (s -ℤ pos (2 * half)) (s +ℤ pos (2 * half)))

-- ---- what is shown of a clock's differences, said of any, so that it can be asked which others meet it
-- something is told exactly where both values are below the turn
abbrev pub ToldInRange : {A : Type 0} → ℕ → (ℕ → ℕ → Answer A) → Type 0
ToldInRange {A = A} turn difference = (a b : ℕ) → ((x : A) × (difference a b ≡ given x)) ↔ ((a < turn) × (b < turn))

-- two differences tell the same
abbrev pub TellSame : {A : Type 0} → (ℕ → ℕ → Answer A) → (ℕ → ℕ → Answer A) → Type 0
TellSame {A = A} difference other = (a b : ℕ) (x : A) → (difference a b ≡ given x) ↔ (other a b ≡ given x)

-- a forward difference, of a clock that turns at `turn`
pub record ForwardSums (turn : ℕ) (forward : ℕ → ℕ → Answer ℕ) : Type 0 where
  -- a way is told exactly where both values are in range
  pub forward_told : ToldInRange turn forward
  -- what is told is below the turn, and leads from b to a
  pub forward_leads : (a b x : ℕ) → forward a b ≡ given x → (x < turn) × ((x + b) % turn ≡ a)
  -- "going forward from a to b and then from b to c is going forward from a to c, modulo the turn"
  pub forward_sum : (a b c x y : ℕ) → forward b a ≡ given x → forward c b ≡ given y → forward c a ≡ given ((x + y) % turn)
  -- "forward from a to a is 0"
  pub forward_self : (a : ℕ) → a < turn → forward a a ≡ given 0

-- one of several intervals: the value that it leads to, and the way to it that was told
pub record Interval : Type 0 where
  pub to : ℕ
  pub way : ℕ

-- a way is told from a to the first one's value, from there to the next one's, and so on
abbrev pub ToldAlong : (ℕ → ℕ → Answer ℕ) → ℕ → List Interval → Type 0
ToldAlong forward a [] = Unit {0}
ToldAlong forward a (i ∷ later) = (forward i.to a ≡ given i.way) × ToldAlong forward i.to later

-- the value that they lead to
abbrev pub last_along : ℕ → List Interval → ℕ
last_along a [] = a
last_along a (i ∷ later) = last_along i.to later

-- any number of them is going forward from the first value to the last, the sum of the ways reduced once
abbrev pub IntervalsAddUp : ℕ → (ℕ → ℕ → Answer ℕ) → Type 0
IntervalsAddUp turn forward = (a : ℕ) (intervals : List Interval) → a < turn → ToldAlong forward a intervals
    → forward (last_along a intervals) a ≡ given (total (λ (i : Interval). i.way) intervals % turn)

-- a signed difference, of a clock whose half turn is `half`
pub record SignedSums (half : ℕ) (apart : ℕ → ℕ → Answer ℤ) : Type 0 where
  -- a difference is told exactly where both values are in range
  pub apart_told : ToldInRange (2 * half) apart
  -- what is told is the way forward from b to a if that is below half a turn, and else that way less a turn
  pub apart_way : (a b : ℕ) (d : ℤ) → apart a b ≡ given d → d ≡ signed_way half (minus_mod (2 * half) a b)
  -- so it lies from −half to half − 1
  pub apart_lies : (a b : ℕ) (d : ℤ) → apart a b ≡ given d → is_within half d ≡ true
  -- the difference from a to b and then that from b to c are the one from a to c, modulo the turn: their sum, or a turn less or more, whichever lies in the range
  pub apart_sum : (a b c : ℕ) (x y : ℤ) → apart b a ≡ given x → apart c b ≡ given y → apart c a ≡ given (brought_back half (x +ℤ y))
  -- from a to a it is 0
  pub apart_self : (a : ℕ) → a < 2 * half → apart a a ≡ given (pos 0)
  -- "the signed stamp difference changes sign when its two stamps are exchanged, except at −2^32"
  pub apart_exchanged : (a b : ℕ) (d : ℤ) → apart a b ≡ given d → (d ≢ neg_ℤ (pos half)) → apart b a ≡ given (neg_ℤ d)
  -- "which stays"
  pub apart_stays : (a b : ℕ) (d : ℤ) → apart a b ≡ given d → d ≡ neg_ℤ (pos half) → apart b a ≡ given d

pub record ClockSums : Type 0 where
  -- ---- "for any modulus"
  -- the way forward from b leads to a
  pub leads : (m a b : ℕ) → b ≤ m → (minus_mod m a b + b) % m ≡ a % m
  -- "going forward from a to b and then from b to c is going forward from a to c, modulo the turn"
  pub sum : (m a b c : ℕ) → b ≤ m → (minus_mod m b a + minus_mod m c b) % m ≡ minus_mod m c a
  -- "forward from a to a is 0"
  pub self : (m a : ℕ) → a ≤ m → minus_mod m a a ≡ 0
  -- the signed difference is that way, or that way less a turn, for any half turn
  pub signed : (half : ℕ) → 0 < half → (a b : ℕ) → signed_mod half a b ≡ signed_way half (minus_mod (2 * half) a b)
  -- it "changes sign when its two stamps are exchanged"
  pub exchanged : (half a b : ℕ) → a < 2 * half → b < 2 * half → (signed_mod half a b ≢ neg_ℤ (pos half)) → signed_mod half b a ≡ neg_ℤ (signed_mod half a b)
  -- "except at −2^32, which stays": that is minus half a turn
  pub stays : (half a b : ℕ) → a < 2 * half → b < 2 * half → signed_mod half a b ≡ neg_ℤ (pos half) → signed_mod half b a ≡ neg_ℤ (pos half)
  -- ---- "and then for both clocks", of what the calls promise
  -- clock references
  pub references : ForwardSums reference_turn reference_forward
  -- and any number of intervals, of whatever forward difference meets this
  pub along : (turn : ℕ) (forward : ℕ → ℕ → Answer ℕ) → ForwardSums turn forward → IntervalsAddUp turn forward
  -- stamps, which have no call that goes forward: the way
  pub stamp_sum : (a b c : ℕ) → b < stamp_turn → (minus_mod stamp_turn b a + minus_mod stamp_turn c b) % stamp_turn ≡ minus_mod stamp_turn c a
  pub stamp_self : (a : ℕ) → a < stamp_turn → minus_mod stamp_turn a a ≡ 0
  -- and the signed difference
  pub stamps : SignedSums (2 ^ 32) stamp_difference
  -- ---- nothing else would do
  -- "modulo the turn" is by no other number; by 0 would be not at all
  pub turn_only : (n : ℕ) → ((a b c x y : ℕ) → reference_forward b a ≡ given x → reference_forward c b ≡ given y → reference_forward c a ≡ given ((x + y) % n)) → n ≡ reference_turn
  -- "except at −2^32" is at no other number
  pub exception_only : (e : ℤ) → ((a b : ℕ) (d : ℤ) → stamp_difference a b ≡ given d → (d ≢ e) → stamp_difference b a ≡ given (neg_ℤ d)) → e ≡ neg_ℤ (pos (2 ^ 32))
  -- and no other differences meet what is shown
  pub only_forward : (turn : ℕ) (forward other : ℕ → ℕ → Answer ℕ) → ForwardSums turn forward → ForwardSums turn other → TellSame forward other
  pub only_signed : (half : ℕ) (apart other : ℕ → ℕ → Answer ℤ) → SignedSums half apart → SignedSums half other → TellSame apart other
