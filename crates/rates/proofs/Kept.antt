-- By induction over the calls: the first rate is taken into what is known, and of the others it is known already.
-- Assumes nothing.
use Rattle.std.specs.Prelude.{None, Some}
use mathlib.Core.Path.{◌≡◌, refl, sym, ◌∙◌, ap, subst}
use mathlib.Core.Bool.{Bool, true, false, cond}
use mathlib.Core.List.{List, [], ◌∷◌, ◌++◌, map, nil≢cons}
use lib.Ieee.{Float, lt, le, is_nan}
use borrow.Author.Tests.{not-false}
use Rattle.ground.specs.Walk.{Every}
use Rattle.rates.specs.Rate.{is_unordered, with_rate}
use Rattle.rates.specs.Laws.{Stretch, Ordered, HasRate, rate_along, RatedAlong, FirstBest, FirstLowest, is_above, is_at_least, FirstHighest, Keeps}
use Rattle.rates.specs.declared.Rates.{Rates}
use Rattle.std.specs.declared.option.Option.{Option}
use Rattle.rates.proofs.Doubles.{not_lt_le, lt_le, le_not, lt_through, le_through}
use Rattle.rates.proofs.Given.{ticks_pos, rate_no_nan, given_has, has_given, record_order, order_passes, given_ordered, ordered_numbers}

-- ---- the first of the best, by any order
record Order (beats holds : Float → Float → Bool) : Type 0 where
  -- what beats holds
  weak : (x y : Float) → beats x y ≡ true → holds x y ≡ true
  -- what is beaten does not hold
  apart : (x y : Float) → beats x y ≡ true → holds y x ≡ true → ⊥
  -- what beats one that holds against a third beats the third
  through : (x y z : Float) → beats x y ≡ true → holds y z ≡ true → beats x z ≡ true

-- of what stands somewhere in a list
among : (P : Float → Type 0) (x : Float) (front back : List Float) → Every P (front ++ x ∷ back) → P x
among P x [] back each = each.0
among P x (y ∷ front) back each = among P x front back each.1

module _ {beats holds : Float → Float → Bool} (order : Order beats holds) where
  -- a new one that beats the old one takes its place
  taken : (old x v : Float) (rest : List Float) → beats x old ≡ true → FirstBest beats holds v (x ∷ rest) → FirstBest beats holds v (old ∷ x ∷ rest)
  taken old x v rest b f =
      record {
        earlier = old ∷ f.earlier;
        later = f.later;
        split = ap (λ (l : List Float). old ∷ l) f.split;
        beaten = (go f.earlier f.split f.beaten, f.beaten);
        held = f.held;
      }
    where
      go : (earlier : List Float) → x ∷ rest ≡ earlier ++ v ∷ f.later → Every (λ y. beats v y ≡ true) earlier → beats v old ≡ true
      go [] e each = let same : x ≡ v = cc in rw same at b
      go (y ∷ ys) e each = let same : y ≡ x = cc in order.through v x old (rw same at each).0 (order.weak x old b)

  -- one that the old one holds against leaves it
  stays : (old x v : Float) (rest : List Float) → holds old x ≡ true → FirstBest beats holds v (old ∷ rest) → FirstBest beats holds v (old ∷ x ∷ rest)
  stays old x v rest h f = go f.earlier f.split f.beaten
    where
      go : (earlier : List Float) → old ∷ rest ≡ earlier ++ v ∷ f.later → Every (λ y. beats v y ≡ true) earlier → FirstBest beats holds v (old ∷ x ∷ rest)
      go [] e each =
          let same : old ≡ v = cc in
          record { earlier = []; later = x ∷ f.later; split = cc; beaten = tt; held = (rw same at h, f.held) }
      go (y ∷ ys) e each =
          let same : y ≡ old = cc in
          record {
            earlier = y ∷ x ∷ ys;
            later = f.later;
            split = cc;
            beaten = (each.0, (order.through v old x (rw same at each).0 h, each.1));
            held = f.held;
          }

  -- two that stand at different places would beat each other
  one_place : (v w y : Float) (front back rest : List Float) → v ∷ rest ≡ y ∷ front ++ w ∷ back → beats w y ≡ true → Every (λ z. holds v z ≡ true) rest → ⊥
  one_place v w y front back rest e b each =
      let same : y ≡ v = cc in
      let tail : rest ≡ front ++ w ∷ back = cc in
      order.apart w v (rw same at b) (among (λ z. holds v z ≡ true) w front back (rw tail at each))

  -- so they are one, wherever the list is parted
  same_split : (v w : Float) (front other back rest : List Float) → front ++ v ∷ back ≡ other ++ w ∷ rest
      → Every (λ y. beats v y ≡ true) front → Every (λ y. beats w y ≡ true) other
      → Every (λ y. holds v y ≡ true) back → Every (λ y. holds w y ≡ true) rest → v ≡ w
  same_split v w [] [] back rest e p q h k = cc
  same_split v w [] (y ∷ other) back rest e p q h k = absurd (one_place v w y other rest back e q.0 h)
  same_split v w (x ∷ front) [] back rest e p q h k = absurd (one_place w v x front back rest (sym e) p.0 k)
  same_split v w (x ∷ front) (y ∷ other) back rest e p q h k =
      let tail : front ++ v ∷ back ≡ other ++ w ∷ rest = cc in same_split v w front other back rest tail p.1 q.1 h k

  -- and there is but one
  first_same : (v w : Float) (list : List Float) → FirstBest beats holds v list → FirstBest beats holds w list → v ≡ w
  first_same v w list f g =
      same_split v w f.earlier g.earlier f.later g.later (sym f.split ∙ g.split) f.beaten g.beaten f.held g.held

-- ---- both ways round
lowest_first : Order lt le
lowest_first = record { weak = lt_le; apart = λ x y b h. le_not y x h b; through = lt_through }

highest_first : Order is_above is_at_least
highest_first = record { weak = λ x y. lt_le y x; apart = λ x y b h. le_not x y h b; through = λ x y z b h. le_through z y x h b }

-- ---- a list has one last
-- with something in it
not_empty : (x : Float) (front : List Float) → [] ≡ front ++ x ∷ [] → ⊥
not_empty x [] e = nil≢cons e
not_empty x (y ∷ front) e = nil≢cons e

-- the same one however it is parted
last_same : (v w : Float) (front other : List Float) → front ++ v ∷ [] ≡ other ++ w ∷ [] → v ≡ w
last_same v w [] [] e = cc
last_same v w [] (y ∷ other) e = let tail : [] ≡ other ++ w ∷ [] = cc in absurd (not_empty w other tail)
last_same v w (x ∷ front) [] e = let tail : [] ≡ front ++ v ∷ [] = cc in absurd (not_empty v front tail)
last_same v w (x ∷ front) (y ∷ other) e = let tail : front ++ v ∷ [] ≡ other ++ w ∷ [] = cc in last_same v w front other tail

-- ---- the record
-- a rate more, taken in before all others
one_more : (k : Option Rates) (x : Float) (rates : List Float) (r : Rates) → is_unordered k ≡ false → is_nan x ≡ false → Keeps (Some (with_rate k x)) rates r
    → Keeps k (x ∷ rates) r
one_more None x rates r e p f = record { latest = f.latest; lowest = f.lowest; highest = f.highest }
one_more (Some old) x rates r e p f =
    record {
      latest = (old.latest ∷ f.latest.0, ap (λ (l : List Float). old.latest ∷ l) f.latest.1);
      lowest = below (lt x old.lowest) refl f.lowest;
      highest = above (lt old.highest x) refl f.highest;
    }
  where
    numbers : (is_nan old.lowest ≡ false) × (is_nan old.latest ≡ false) × (is_nan old.highest ≡ false)
    numbers = ordered_numbers old (not-false _ e)

    below : (b : Bool) → lt x old.lowest ≡ b → FirstLowest r.lowest (cond b x old.lowest ∷ rates) → FirstLowest r.lowest (old.lowest ∷ x ∷ rates)
    below true g = taken lowest_first old.lowest x r.lowest rates g
    below false g = stays lowest_first old.lowest x r.lowest rates (not_lt_le x old.lowest p numbers.0 g)

    above : (b : Bool) → lt old.highest x ≡ b → FirstHighest r.highest (cond b x old.highest ∷ rates)
        → FirstHighest r.highest (old.highest ∷ x ∷ rates)
    above true g = taken highest_first old.highest x r.highest rates g
    above false g = stays highest_first old.highest x r.highest rates (not_lt_le old.highest x numbers.2 p g)

-- of one alone
one_alone : {beats holds : Float → Float → Bool} (x : Float) → FirstBest beats holds x (x ∷ [])
one_alone x = record { earlier = []; later = []; split = refl; beaten = tt; held = tt }

-- of all
pub keeps : (k : Option Rates) (stretches : List Stretch) (r : Rates) → RatedAlong k stretches (Some r) → Keeps k (map rate_along stretches) r
keeps k [] r e = subst (λ (l : Option Rates). Keeps l [] r) (sym e) (record { latest = ([], refl); lowest = one_alone r.lowest; highest = one_alone r.highest })
keeps k (s ∷ later) r (next, e, rest) =
    let found = given_has k s next e in
    one_more k (rate_along s) (map rate_along later) r found.0 (rate_no_nan _ _ found.1.few_bytes (ticks_pos s found.1))
    (subst (λ (l : Rates). Keeps (Some l) (map rate_along later) r) found.2 (keeps (Some next) later r rest))

-- three doubles fix a record
abbrev all_three : Float → Float → Float → Rates
all_three x y z = record { lowest = x; latest = y; highest = z }

-- so no other record meets it
pub only : (k : Option Rates) (rates : List Float) (r other : Rates) → Keeps k rates r → Keeps k rates other → r ≡ other
only k rates r other f g =
    let a = first_same lowest_first r.lowest other.lowest _ f.lowest g.lowest in
    let b = last_same r.latest other.latest f.latest.0 g.latest.0 (sym f.latest.1 ∙ g.latest.1) in
    let c = first_same highest_first r.highest other.highest _ f.highest g.highest in
    let same : all_three r.lowest r.latest r.highest ≡ all_three other.lowest other.latest other.highest = cc in
    same

-- nothing ends the calls but a stretch that has no rate
pub runs : (k : Option Rates) (stretches : List Stretch) → Ordered k → Every HasRate stretches → (l : Option Rates) × RatedAlong k stretches l
runs k [] e each = (k, refl)
runs k (s ∷ later) e each =
    let next = with_rate k (rate_along s) in
    let is = has_given k s (order_passes k e) each.0 in
    let on = runs (Some next) later (record_order next (given_ordered k s next is)) each.1 in
    (on.0, (next, is, on.1))
