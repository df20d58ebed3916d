-- Document 02, ticket 8: what a rate is, and what the record is after any calls.
use Rattle.std.specs.Prelude.{◌≡◌, Bool, true, false, List, [], ◌∷◌, ◌++◌, map, ◌⊎◌, ◌↔◌, ℕ, ◌*◌, ◌^◌, ◌≤◌, ◌<◌, ℤ, pos, Float, None, Some}
use Rattle.std.specs.Float.{fin, binary64}
use Rattle.std.specs.Float.Ieee.{round, div, of_int, lt, le, is_nan}
use Rattle.ground.specs.Answer.{Answer, refused, given}
use Rattle.ground.specs.Walk.{Every}
use Rattle.clock.specs.Range.{reference_turn}
use Rattle.clock.specs.Difference.{reference_forward}
use Rattle.rates.specs.Rate.{byte_rate, ticks_of, is_ordered, rated}
use Rattle.rates.specs.Nearest.{NearestDouble}
use Rattle.rates.specs.Examples.{Examples}
use Rattle.rates.specs.declared.Rates.{Rates}
use Rattle.std.specs.declared.option.Option.{Option}

-- the bytes between two clock references
pub record Stretch : Type 0 where
  pub bytes : ℕ
  pub later : ℕ
  pub earlier : ℕ

-- its rate
abbrev pub rate_along : Stretch → Float
rate_along s = byte_rate s.bytes (ticks_of s.later s.earlier)

-- what the call gives for it
abbrev pub rated_with : Option Rates → Stretch → Answer Rates
rated_with k s = rated k s.bytes s.later s.earlier

-- what is known is in order: nothing, or a record in which lowest ≤ latest ≤ highest, as doubles are compared
abbrev pub Ordered : Option Rates → Type 0
Ordered None = Unit {0}
Ordered (Some r) = (le r.lowest r.latest ≡ true) × (le r.latest r.highest ≡ true)

-- it has a rate: both references are in range and differ, and the bytes are no more than can be made a double exactly
pub record HasRate (s : Stretch) : Type 0 where
  pub later_in_range : s.later < reference_turn
  pub earlier_in_range : s.earlier < reference_turn
  pub few_bytes : s.bytes ≤ 333599972
  pub differ : s.later ≡ s.earlier → ⊥

-- ---- calls one after the other, each with the record that the one before it gave
abbrev pub RatedAlong : Option Rates → List Stretch → Option Rates → Type 0
RatedAlong k [] l = k ≡ l
RatedAlong k (s ∷ later) l = (r : Rates) × (rated_with k s ≡ given r) × RatedAlong (Some r) later l

-- one of the record's doubles, where there is a record
abbrev pub before : (Rates → Float) → Option Rates → List Float
before part None = []
before part (Some r) = part r ∷ []

-- x stands in the list, what stands before it is strictly beaten by it, and what stands behind it does not beat it: of equal ones the first
pub record FirstBest (beats holds : Float → Float → Bool) (x : Float) (list : List Float) : Type 0 where
  pub earlier : List Float
  pub later : List Float
  pub split : list ≡ earlier ++ x ∷ later
  pub beaten : Every (λ y. beats x y ≡ true) earlier
  pub held : Every (λ y. holds x y ≡ true) later

-- the lowest of a list
abbrev pub FirstLowest : Float → List Float → Type 0
FirstLowest = FirstBest lt le

-- and the highest, the order turned round
abbrev pub is_above : Float → Float → Bool
is_above x y = lt y x

abbrev pub is_at_least : Float → Float → Bool
is_at_least x y = le y x

abbrev pub FirstHighest : Float → List Float → Type 0
FirstHighest = FirstBest is_above is_at_least

-- the record after some rates: what is told of each of its doubles, with the one that was there before
pub record Keeps (k : Option Rates) (rates : List Float) (r : Rates) : Type 0 where
  -- the last rate
  pub latest : (front : List Float) × (before (λ (old : Rates). old.latest) k ++ rates ≡ front ++ r.latest ∷ [])
  -- at most every rate, one of them, and of equal ones the first
  pub lowest : FirstLowest r.lowest (before (λ (old : Rates). old.lowest) k ++ rates)
  -- at least every rate, one of them, and of equal ones the first
  pub highest : FirstHighest r.highest (before (λ (old : Rates). old.highest) k ++ rates)

pub record RateLaws : Type 0 where
  -- ---- "both exact before the one division"
  -- of two whole numbers up to 2^53, each made a double, the quotient is their fraction rounded once
  pub one_division : (n d : ℕ) → n ≤ 2 ^ 53 → d ≤ 2 ^ 53 → 0 < d → div binary64 (of_int binary64 (pos n)) (of_int binary64 (pos d)) ≡ round binary64 false n d
  -- no other double is as near, so that there is nothing to choose: "fixed bit for bit"
  pub nearest : (s : Stretch) → HasRate s → NearestDouble (s.bytes * 27000000) (ticks_of s.later s.earlier) (rate_along s)
  -- a rate is finite and at least 0, and not −0
  pub finite : (s : Stretch) → HasRate s → (m : ℕ) × (e : ℤ) × (rate_along s ≡ fin false m e)
  -- more bytes, or fewer ticks, never give a lower rate
  pub rises : (bytes more ticks fewer : ℕ) → bytes ≤ more → fewer ≤ ticks → 0 < fewer → le (byte_rate bytes ticks) (byte_rate more fewer) ≡ true
  -- ---- "divided by the forward difference"
  -- it is what the clock's call tells, and is not 0
  pub forward : (s : Stretch) → HasRate s → (reference_forward s.later s.earlier ≡ given (ticks_of s.later s.earlier)) × (0 < ticks_of s.later s.earlier)
  -- ---- one call
  -- a record is given exactly where the one before it is in order and the stretch has a rate
  pub given_exactly : (k : Option Rates) (s : Stretch) → ((r : Rates) × (rated_with k s ≡ given r)) ↔ (Ordered k × HasRate s)
  -- else it is refused: for its record, whatever the stretch
  pub unordered_refused : (k : Option Rates) (s : Stretch) → (Ordered k → ⊥) → rated_with k s ≡ refused 82
  -- then for a reference, whatever the bytes
  pub range_refused : (k : Option Rates) (s : Stretch) → Ordered k → (reference_turn ≤ s.later) ⊎ (reference_turn ≤ s.earlier) → rated_with k s ≡ refused 40
  -- then for its bytes, whether or not the references differ
  pub bytes_refused : (k : Option Rates) (s : Stretch) → Ordered k → s.later < reference_turn → s.earlier < reference_turn → 333599972 < s.bytes
      → rated_with k s ≡ refused 80
  -- and at last for a difference of 0
  pub equal_refused : (k : Option Rates) (s : Stretch) → Ordered k → s.later < reference_turn → s.bytes ≤ 333599972 → s.later ≡ s.earlier
      → rated_with k s ≡ refused 81
  -- a record that was given is in order
  pub ordered : (k : Option Rates) (s : Stretch) (r : Rates) → rated_with k s ≡ given r → (is_ordered r ≡ true) × Ordered (Some r)
  -- so the next call does not refuse it
  pub goes_on : (k : Option Rates) (s next : Stretch) (r : Rates) → rated_with k s ≡ given r → rated_with (Some r) next ≡ refused 82 → ⊥
  -- and none of its doubles is a NaN
  pub numbers : (k : Option Rates) (s : Stretch) (r : Rates) → rated_with k s ≡ given r
      → (is_nan r.lowest ≡ false) × (is_nan r.latest ≡ false) × (is_nan r.highest ≡ false)
  -- ---- any number of calls
  -- nothing but a stretch that has no rate ends them
  pub runs : (k : Option Rates) (stretches : List Stretch) → Ordered k → Every HasRate stretches → (l : Option Rates) × RatedAlong k stretches l
  -- "Keep lowest, latest and highest"; "an equal lowest or highest keeps its old bits"
  pub keeps : (k : Option Rates) (stretches : List Stretch) (r : Rates) → RatedAlong k stretches (Some r) → Keeps k (map rate_along stretches) r
  -- no other record would do
  pub only : (k : Option Rates) (rates : List Float) (r other : Rates) → Keeps k rates r → Keeps k rates other → r ≡ other
  -- ---- rates and records by their bits
  pub examples : Examples
