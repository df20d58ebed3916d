-- One pass over the filter places finds out what three clauses of soundness ask: the places are in range, the users are counted, and numbers differ, those of different classes without a comparison.
-- Assumes nothing.
use mathlib.Core.Path.{◌≡◌, refl, sym, ◌∙◌, ap, ap₂}
use mathlib.Core.Bool.{Bool, true, false, cond, not, ◌&&◌, false≢true}
use mathlib.Core.List.{List, [], ◌∷◌, map}
use Prim.Native.Nat.{ℕ, zero, suc, ◌+◌, ◌-◌, ◌%◌, ◌≤◌, ◌<◌, suc-le-suc, zero-le}
use native.Mathlib.Nat.{mod-lt, zero-add, add-zero, add-suc, suc-add, not-suc-le-zero, le_of_suc-le-suc}
use native.Mathlib.Numerals.{add-one}
use native.Mathlib.Omega.{arith}
use borrow.Author.Tests.{eq-eqb, ne_eqb, eqb-true, eqb-false, ltb-true, lt-ltb, not-true}
use native.Mathlib.Decide.{ℕ_discrete, dec_lt}
use lib.Dec.{eqb, ltb, lit<}
use lib.ListN.{length, drop, get_or, set, replicate, get_or-replicate, length-set, length-map, length-drop, get_or-eq_default, get_or-map}
use lib.Seq.{drop-cons, get_or-drop, get_or-set_same, get_or-set_other}
use Rattle.ground.specs.Walk.{all, apart, count}
use Rattle.ground.proofs.Test.{both_true, true_both, and_false}
use Rattle.ground.proofs.Walk.{all_at, all_of, all_goes, all_weaker, apart_front, total_turn, total_at, total_none, count_le}
use Rattle.ground.proofs.Kept.{Kept, kept_none, kept_one, kept_new, kept_met}
use Rattle.state.specs.State.{is_open, is_used, stands_on, free_area, free_filter}
use Rattle.state.specs.Choice.{placed}
use Rattle.state.specs.declared.Area.{Area}
use Rattle.state.specs.declared.Filter.{Filter}
use Rattle.sound.specs.Sound.{sound_filter, counted, same_number, sound_place}
use Rattle.sound.specs.Steps.{known, is_new, number_kept, is_zero_place, Counts, agree, fits_place, counted_in, met_in, is_met, class_of}
use Rattle.sound.proofs.Choices.{same_choices}

-- ---- counts and users
pub agree_turn : (counts : List ℕ) (areas : List Area) (i : ℕ) → i < length counts → i < length areas
    → agree (drop i counts) (drop i areas) ≡ (eqb (get_or areas i free_area).users (get_or counts i 0) && agree (drop (suc i) counts) (drop (suc i) areas))
agree_turn counts areas i p q = ap₂ agree (drop-cons counts i 0 p) (drop-cons areas i free_area q)

-- right counts agree exactly where the users are counted
agree_counted : (filters : List Filter) (i : ℕ) (counts : List ℕ) (areas : List Area) → length counts ≡ length areas
    → ((k : ℕ) → k < length areas → get_or counts k 0 ≡ count (stands_on (i + k)) filters) → agree counts areas ≡ counted filters i areas
agree_counted filters i [] [] e right = refl
agree_counted filters i [] (a ∷ areas) e right = absurd (omega arith)
agree_counted filters i (n ∷ counts) [] e right = absurd (omega arith)
agree_counted filters i (n ∷ counts) (a ∷ areas) e right =
    ap₂ (λ (m : ℕ) (b : Bool). eqb a.users m && b)
    (right 0 (suc-le-suc zero-le) ∙ ap (λ (k : ℕ). count (stands_on k) filters) (add-zero i))
    (agree_counted filters (suc i) counts areas (omega arith)
    (λ k h. right (suc k) (suc-le-suc h) ∙ ap (λ (j : ℕ). count (stands_on j) filters) (add-suc i k ∙ sym (suc-add i k))))

-- so they agree with the filters that were counted
pub agree_counts : (filters : List Filter) (counts : List ℕ) (areas : List Area) → length areas ≡ 8 → Counts filters counts → agree counts areas ≡ counted filters 0 areas
agree_counts filters counts areas long right =
    agree_counted filters 0 counts areas (right.0 ∙ sym long)
    (λ k h. right.1 k (rw long at h) ∙ ap (λ (j : ℕ). count (stands_on j) filters) (sym (zero-add k)))

-- ---- one place counted
counted_in_lem : (counts : List ℕ) (f : Filter) (k : ℕ) → k < length counts → get_or (counted_in counts f) k 0 ≡ get_or counts k 0 + cond (stands_on k f) 1 0
counted_in_lem counts f k b = go (is_open f) (ℕ_discrete f.area k)
  where
    go : (o : Bool) → Dec (f.area ≡ k)
        → get_or (cond o (set counts f.area (get_or counts f.area 0 + 1)) counts) k 0 ≡ get_or counts k 0 + cond (o && eqb f.area k) 1 0
    go false d = sym (add-zero (get_or counts k 0))
    go true (yes e) = rw (e, eq-eqb k k refl) (get_or-set_same counts k (get_or counts k 0 + 1) 0 b)
    go true (no n) = rw (ne_eqb f.area k n, add-zero) (get_or-set_other counts f.area k (get_or counts f.area 0 + 1) 0 (λ e. n (sym e)))

-- counting a place moves one user from the places left to the counts
pub counted_turn : (filters : List Filter) (counts : List ℕ) (i k : ℕ) → i < length filters → k < length counts
    → get_or (counted_in counts (get_or filters i free_filter)) k 0 + count (stands_on k) (drop (suc i) filters) ≡ get_or counts k 0 + count (stands_on k) (drop i filters)
counted_turn filters counts i k h b =
    let e = counted_in_lem counts (get_or filters i free_filter) k b in
    let q = total_turn (λ f. cond (stands_on k f) 1 0) filters i free_filter h in
    omega arith

pub length_counted : (counts : List ℕ) (f : Filter) → length (counted_in counts f) ≡ length counts
length_counted counts f = go (is_open f)
  where
    go : (o : Bool) → length (cond o (set counts f.area (get_or counts f.area 0 + 1)) counts) ≡ length counts
    go true = length-set counts f.area (get_or counts f.area 0 + 1)
    go false = refl

-- ---- classes met
-- the first i places have no two numbers alike, and the class of each open one is met
pub record Met (filters : List Filter) (met : List ℕ) (i : ℕ) : Type 0 where
  pub marked : (j : ℕ) → j < i → is_open (get_or filters j free_filter) ≡ true → get_or met (class_of (get_or filters j free_filter)) 0 ≡ 1
  pub differ : (j k : ℕ) → j < k → k < i → same_number (get_or filters j free_filter) (get_or filters k free_filter) ≡ false

pub met_none : (filters : List Filter) (met : List ℕ) → Met filters met 0
met_none filters met = record { marked = λ j h. absurd (not-suc-le-zero h); differ = λ j k h b. absurd (not-suc-le-zero b) }

pub length_met : (met : List ℕ) (f : Filter) → length (met_in met f) ≡ length met
length_met met f = go (is_open f)
  where
    go : (o : Bool) → length (cond o (set met (class_of f) 1) met) ≡ length met
    go true = length-set met (class_of f) 1
    go false = refl

-- a class that is met stays met
stays_met : (met : List ℕ) (f : Filter) (k : ℕ) → k < length met → get_or met k 0 ≡ 1 → get_or (met_in met f) k 0 ≡ 1
stays_met met f k h e = go (is_open f) (ℕ_discrete k (class_of f))
  where
    go : (o : Bool) → Dec (k ≡ class_of f) → get_or (cond o (set met (class_of f) 1) met) k 0 ≡ 1
    go false d = e
    go true (yes q) = rw (sym q) (get_or-set_same met k 1 0 h)
    go true (no n) = get_or-set_other met (class_of f) k 1 0 n ∙ e

-- an open filter's class is met after it
now_met : (met : List ℕ) (f : Filter) → class_of f < length met → is_open f ≡ true → get_or (met_in met f) (class_of f) 0 ≡ 1
now_met met f h o = rw o (get_or-set_same met (class_of f) 1 0 h)

-- an earlier filter whose class is met does not have the number of one whose class is not
apart_now : (met : List ℕ) (f g : Filter) → is_met met g ≡ false → (is_open f ≡ true → get_or met (class_of f) 0 ≡ 1) → same_number f g ≡ false
apart_now met f g unmet marked = go (is_open f) refl (ℕ_discrete f.number g.number)
  where
    go : (o : Bool) → is_open f ≡ o → Dec (f.number ≡ g.number) → (o && eqb f.number g.number) ≡ false
    go false e d = refl
    go true e (no n) = ne_eqb f.number g.number n
    go true e (yes q) =
        absurd
        (false≢true
        (sym unmet
        ∙ true_both (is_open g) _ (ap (λ (n : ℕ). not (eqb n 0)) (sym q) ∙ e)
        (ap (λ (n : ℕ). not (eqb n 0)) (ap (λ (n : ℕ). get_or met (n % 256) 0) (sym q) ∙ marked e))))

-- so a filter whose class is not met is new, as one is that was compared with those before it
abbrev NoneBefore : List Filter → ℕ → Type 0
NoneBefore filters i = (j : ℕ) → j < i → same_number (get_or filters j free_filter) (get_or filters i free_filter) ≡ false

unmet_new : (filters : List Filter) (met : List ℕ) (i : ℕ) → Met filters met i → is_met met (get_or filters i free_filter) ≡ false → NoneBefore filters i
unmet_new filters met i m unmet j h = apart_now met (get_or filters j free_filter) (get_or filters i free_filter) unmet (m.marked j h)

met_turn : (filters : List Filter) (met : List ℕ) (i : ℕ) → length met ≡ 256 → NoneBefore filters i → Met filters met i
    → Met filters (met_in met (get_or filters i free_filter)) (i + 1)
met_turn filters met i long new m = record { marked = marks; differ = differs }
  where
    room : (f : Filter) → class_of f < length met
    room f = rw long (mod-lt f.number (lit< tt))

    marks : (j : ℕ) → j < i + 1 → is_open (get_or filters j free_filter) ≡ true
        → get_or (met_in met (get_or filters i free_filter)) (class_of (get_or filters j free_filter)) 0 ≡ 1
    marks j h o = go (ℕ_discrete j i)
      where
        go : Dec (j ≡ i) → get_or (met_in met (get_or filters i free_filter)) (class_of (get_or filters j free_filter)) 0 ≡ 1
        go (yes e) = rw e (now_met met (get_or filters i free_filter) (room (get_or filters i free_filter)) (rw e at o))
        go (no n) = stays_met met (get_or filters i free_filter) (class_of (get_or filters j free_filter)) (room (get_or filters j free_filter)) (m.marked j (omega arith) o)

    differs : (j k : ℕ) → j < k → k < i + 1 → same_number (get_or filters j free_filter) (get_or filters k free_filter) ≡ false
    differs j k h b = go (ℕ_discrete k i)
      where
        go : Dec (k ≡ i) → same_number (get_or filters j free_filter) (get_or filters k free_filter) ≡ false
        go (yes e) = rw e (new j (omega arith))
        go (no n) = m.differ j k h (omega arith)

-- ---- the three clauses
-- an area that does not exist has no users, so whoever stands on a used one stands on one of them
sound_fits : (next : ℕ) (areas : List Area) (f : Filter) → length areas ≡ 8 → sound_filter next areas f ≡ true → fits_place next f ≡ true
sound_fits next areas f long e = go (is_open f) e
  where
    go : (o : Bool) → cond o (ltb f.number next && is_used (get_or areas f.area free_area)) (eqb f.area 0) ≡ true
        → cond o (ltb f.number next && ltb f.area 8) (eqb f.area 0) ≡ true
    go false e = e
    go true e =
        let parts = both_true (ltb f.number next) (is_used (get_or areas f.area free_area)) e in
        true_both (ltb f.number next) (ltb f.area 8) parts.0 (inside (dec_lt f.area 8) parts.1)
      where
        inside : Dec (f.area < 8) → is_used (get_or areas f.area free_area) ≡ true → ltb f.area 8 ≡ true
        inside (yes h) u = lt-ltb f.area 8 h
        inside (no n) u =
            absurd (false≢true (ap is_used (sym (get_or-eq_default areas free_area (omega arith))) ∙ u))

-- a counted area has as many users as filters stand on it
pub counted_at : (filters : List Filter) (i : ℕ) (areas : List Area) → counted filters i areas ≡ true → (k : ℕ) → k < length areas
    → (get_or areas k free_area).users ≡ count (stands_on (i + k)) filters
counted_at filters i [] e k h = absurd (not-suc-le-zero h)
counted_at filters i (a ∷ areas) e zero h =
    eqb-true _ _ (both_true (eqb a.users (count (stands_on i) filters)) (counted filters (suc i) areas) e).0
    ∙ ap (λ (j : ℕ). count (stands_on j) filters) (sym (add-zero i))
counted_at filters i (a ∷ areas) e (suc k) h =
    counted_at filters (suc i) areas (both_true (eqb a.users (count (stands_on i) filters)) (counted filters (suc i) areas) e).1 k (le_of_suc-le-suc h)
    ∙ ap (λ (j : ℕ). count (stands_on j) filters) (suc-add i k ∙ sym (add-suc i k))

-- whoever stands on an area is counted there
pub stands_counted : (filters : List Filter) (j a : ℕ) → j < length filters → stands_on a (get_or filters j free_filter) ≡ true → 0 < count (stands_on a) filters
stands_counted filters j a h e =
    let one = total_at (λ f. cond (stands_on a f) 1 0) filters j free_filter h in
    let is : ◌≡◌ {A = ℕ} (cond (stands_on a (get_or filters j free_filter)) 1 0) 1 = ap (λ (b : Bool). cond b 1 0) e in
    omega arith

-- so an open filter within the eight areas stands on a used one
fits_sound : (next : ℕ) (areas : List Area) (filters : List Filter) (j : ℕ) → length areas ≡ 8 → j < length filters → counted filters 0 areas ≡ true
    → fits_place next (get_or filters j free_filter) ≡ true → sound_filter next areas (get_or filters j free_filter) ≡ true
fits_sound next areas filters j long h e q = go (is_open (get_or filters j free_filter)) refl q
  where
    go : (o : Bool) → is_open (get_or filters j free_filter) ≡ o
        → cond o (ltb (get_or filters j free_filter).number next && ltb (get_or filters j free_filter).area 8) (eqb (get_or filters j free_filter).area 0) ≡ true
        → cond o (ltb (get_or filters j free_filter).number next && is_used (get_or areas (get_or filters j free_filter).area free_area)) (eqb (get_or filters j free_filter).area 0) ≡ true
    go false o q = q
    go true o q =
        let f = get_or filters j free_filter in
        let parts = both_true (ltb f.number next) (ltb f.area 8) q in
        let inside : f.area < length areas = rw long (ltb-true f.area 8 parts.1) in
        let users = counted_at filters 0 areas e f.area inside ∙ ap (λ (k : ℕ). count (stands_on k) filters) (zero-add f.area) in
        let some = stands_counted filters j f.area h (true_both (is_open f) _ o (eq-eqb f.area f.area refl)) in
        true_both (ltb f.number next) _ parts.0 (ap not (ne_eqb (get_or areas f.area free_area).users 0 (omega arith)))

same_truth : (a b : Bool) → (a ≡ true → b ≡ true) → (b ≡ true → a ≡ true) → a ≡ b
same_truth true b f g = sym (f refl)
same_truth false true f g = g refl
same_truth false false f g = refl

-- the places are sound where they are in range and the users are counted
places_sound : (next : ℕ) (areas : List Area) (filters : List Filter) → length areas ≡ 8 → counted filters 0 areas ≡ true
    → all (sound_filter next areas) filters ≡ all (fits_place next) filters
places_sound next areas filters long e =
    same_truth _ _
    (λ s. all_of (fits_place next) filters free_filter (λ j h. sound_fits next areas (get_or filters j free_filter) long (all_at (sound_filter next areas) filters free_filter s j h)))
    (λ s. all_of (sound_filter next areas) filters free_filter (λ j h. fits_sound next areas filters j long h e (all_at (fits_place next) filters free_filter s j h)))

-- what is out of range is not sound, counted or not
places_unsound : (next : ℕ) (areas : List Area) (filters : List Filter) → length areas ≡ 8 → all (fits_place next) filters ≡ false
    → all (sound_filter next areas) filters ≡ false
places_unsound next areas filters long e = go (all (sound_filter next areas) filters) refl
  where
    go : (b : Bool) → all (sound_filter next areas) filters ≡ b → b ≡ false
    go false q = refl
    go true q =
        sym (sym e ∙ all_of (fits_place next) filters free_filter (λ j h. sound_fits next areas (get_or filters j free_filter) long (all_at (sound_filter next areas) filters free_filter q j h)))

-- an open filter in range stands within the eight areas
pub open_inside : (next : ℕ) (f : Filter) → fits_place next f ≡ true → is_open f ≡ true → f.area < 8
open_inside next f e o =
    ltb-true f.area 8
    (both_true (ltb f.number next) (ltb f.area 8) (sym (ap (λ (b : Bool). cond b (ltb f.number next && ltb f.area 8) (eqb f.area 0)) o) ∙ e)).1

-- one test before four others
pub regrouped : (x a b c d : Bool) → ((((x && a) && b) && c) && d) ≡ (x && (((a && b) && c) && d))
regrouped true a b c d = refl
regrouped false a b c d = refl

module _ (next : ℕ) (areas : List Area) (filters : List Filter) (choices : List ℕ) (long : length areas ≡ 8) where
  abbrev chosen : Bool
  chosen = all sound_place (placed filters choices)

  -- the four clauses together, and what the pass over the places finds out
  abbrev clauses : Bool
  clauses = all (sound_filter next areas) filters && apart same_number filters && chosen && counted filters 0 areas

  abbrev found : Bool
  found = all (fits_place next) filters && apart same_number filters && chosen

  clauses_counted : counted filters 0 areas ≡ false → clauses ≡ false
  clauses_counted e = rw e (and_false (all (sound_filter next areas) filters && apart same_number filters && chosen))

  -- where the pass fails, they do
  pub clauses_out : found ≡ false → clauses ≡ false
  clauses_out e = go (all (fits_place next) filters) refl e
    where
      rest : (f n : Bool) → (n && chosen) ≡ false → (((f && n) && chosen) && counted filters 0 areas) ≡ false
      rest true n q = ap (λ (b : Bool). b && counted filters 0 areas) q
      rest false n q = refl

      go : (b : Bool) → all (fits_place next) filters ≡ b → (b && apart same_number filters && chosen) ≡ false → clauses ≡ false
      go false q e = rw (places_unsound next areas filters long q)
      go true q e = rest (all (sound_filter next areas) filters) (apart same_number filters) e

  -- where it does not, what is left of them is that the users are counted
  pub clauses_left : found ≡ true → clauses ≡ counted filters 0 areas
  clauses_left e = go (counted filters 0 areas) refl
    where
      go : (b : Bool) → counted filters 0 areas ≡ b → clauses ≡ b
      go true q =
          let whole = both_true (all (fits_place next) filters && apart same_number filters) chosen e in
          let both = both_true (all (fits_place next) filters) (apart same_number filters) whole.0 in
          rw (places_sound next areas filters long q ∙ both.0, both.1, whole.1, q)
      go false q = clauses_counted q

-- ---- two open filters have one number exactly where what is kept of them is equal
pub same_kept : (f g : Filter) → same_number f g ≡ true → number_kept f ≡ number_kept g
same_kept f g e = eqb-true f.number g.number (both_true (is_open f) (eqb f.number g.number) e).1

pub kept_same : (f g : Filter) → number_kept f ≡ number_kept g → (number_kept g ≡ 0 → ⊥) → same_number f g ≡ true
kept_same f g e some =
    true_both (is_open f) (eqb f.number g.number) (ap not (ne_eqb f.number 0 (λ z. some (sym e ∙ z)))) (eq-eqb f.number g.number e)

-- ---- a place that is all zero
zero_fits : (next : ℕ) (f : Filter) → is_zero_place f ≡ true → fits_place next f ≡ true
zero_fits next f e = let p = both_true (eqb f.number 0) (eqb f.area 0) e in rw p.0 p.1

zero_stands : (k : ℕ) (f : Filter) → is_zero_place f ≡ true → stands_on k f ≡ false
zero_stands k f e = rw (both_true (eqb f.number 0) (eqb f.area 0) e).0

zero_unlike : (f g : Filter) → is_zero_place g ≡ true → same_number f g ≡ false
zero_unlike f g e = go (same_number f g) refl
  where
    go : (b : Bool) → same_number f g ≡ b → b ≡ false
    go false q = refl
    go true q =
        absurd
        (eqb-false f.number 0 (not-true _ (both_true (is_open f) (eqb f.number g.number) q).0)
        (same_kept f g q ∙ eqb-true g.number 0 (both_true (eqb g.number 0) (eqb g.area 0) e).0))

zero_behind : (filters : List Filter) (i j : ℕ) → all is_zero_place (drop i filters) ≡ true → i ≤ j → (get_or filters j free_filter).number ≡ 0
zero_behind filters i j zeros b = go (dec_lt j (length filters))
  where
    go : Dec (j < length filters) → (get_or filters j free_filter).number ≡ 0
    go (no n) = ap (λ (f : Filter). f.number) (get_or-eq_default filters free_filter (omega arith))
    go (yes h) =
        let is : i + (j - i) ≡ j = omega arith in
        let at : get_or (drop i filters) (j - i) free_filter ≡ get_or filters j free_filter = get_or-drop i filters (j - i) free_filter ∙ ap (λ (n : ℕ). get_or filters n free_filter) is in
        let inside : j - i < length (drop i filters) = rw (length-drop i filters) (omega arith) in
        let zero = all_at is_zero_place (drop i filters) free_filter zeros (j - i) inside in
        ap (λ (f : Filter). f.number) (sym at) ∙ eqb-true (get_or (drop i filters) (j - i) free_filter).number 0 (both_true (eqb (get_or (drop i filters) (j - i) free_filter).number 0) (eqb (get_or (drop i filters) (j - i) free_filter).area 0) zero).0

-- what all from an index on pass
pub all_from {ℓ} : {A : Type ℓ} (p : A → Bool) (l : List A) (d : A) (end : ℕ) → ((k : ℕ) → k < length l → end ≤ k → p (get_or l k d) ≡ true) → all p (drop end l) ≡ true
all_from p l d end each =
    all_of p (drop end l) d
    (λ j h.
    let inside : j < length l - end = rw length-drop at h in
    ap p (get_or-drop end l j d) ∙ each (end + j) (omega arith) (omega arith))

-- ---- the pass over the places
-- what is known once i places are passed
pub record Passed (next : ℕ) (filters : List Filter) (counts met numbers : List ℕ) (i : ℕ) : Type 0 where
  pub bound : i ≤ 32
  pub ranged : all (fits_place next) filters ≡ all (fits_place next) (drop i filters)
  pub eight : length counts ≡ 8
  pub classes : length met ≡ 256
  pub tallied : (k : ℕ) → k < 8 → get_or counts k 0 + count (stands_on k) (drop i filters) ≡ count (stands_on k) filters
  pub unlike : Met filters met i
  pub kept : Kept number_kept 0 free_filter filters numbers i

pub passed_none : (next : ℕ) (filters : List Filter) → length filters ≡ 32 → Passed next filters (replicate 8 0) (replicate 256 0) (replicate 32 0) 0
passed_none next filters long =
    record {
      bound = zero-le;
      ranged = refl;
      eight = refl;
      classes = refl;
      tallied = λ k h. rw (get_or-replicate {A = ℕ} 8 k 0 0 h) (zero-add (count (stands_on k) filters));
      unlike = met_none filters (replicate 256 0);
      kept = kept_none number_kept 0 free_filter filters 32 long;
    }

module _ (next : ℕ) (filters : List Filter) (counts met numbers : List ℕ) (i : ℕ) (long : length filters ≡ 32) (p : Passed next filters counts met numbers i) where
  abbrev own : Filter
  own = get_or filters i free_filter

  -- what is known after one place more
  abbrev After : Type 0
  After = Passed next filters (counted_in counts own) (met_in met own) (set numbers i own.number) (i + 1)

  -- there is room for one more at every area
  pub counts_small : (k : ℕ) → k < 8 → get_or counts k 0 < 255
  counts_small k h =
      let most = count_le (stands_on k) filters in
      let e = p.tallied k h in
      omega arith

  module _ (h : i < 32) where
    here : i < length filters
    here = rw long h

    passed_turn : fits_place next own ≡ true → NoneBefore filters i → After
    passed_turn fits new =
        record {
          bound = omega arith;
          ranged = all_goes (fits_place next) filters i (all (fits_place next) filters) p.ranged free_filter here fits;
          eight = length_counted counts own ∙ p.eight;
          classes = length_met met own ∙ p.classes;
          tallied = λ k b. rw (add-one i) (counted_turn filters counts i k here (rw p.eight b) ∙ p.tallied k b);
          unlike = met_turn filters met i p.classes new p.unlike;
          kept = kept_one number_kept 0 free_filter filters numbers i p.kept here _ refl;
        }

    -- one place more, of a class that is not met
    pub passed_unmet : fits_place next own ≡ true → is_met met own ≡ false → After
    passed_unmet fits unmet = passed_turn fits (unmet_new filters met i p.unlike unmet)

    -- and one whose number is none of those kept
    pub passed_compared : fits_place next own ≡ true → is_new own.number numbers ≡ true → After
    passed_compared fits e = passed_turn fits (kept_new number_kept 0 free_filter filters numbers i p.kept same_number same_kept kept_same here e)

    -- a class that is met is that of an open filter; where its number is one of those kept, two filters have it
    pub passed_met : is_met met own ≡ true → is_new own.number numbers ≡ false → apart same_number filters ≡ false
    passed_met m e =
        kept_met number_kept 0 free_filter filters numbers i p.kept same_number same_kept kept_same here
        (eqb-false _ 0 (not-true _ (both_true (is_open own) _ m).0)) e

  -- once all are passed but those that are all zero
  module _ (zeros : all is_zero_place (drop i filters) ≡ true) where
    -- what is left to know are the choices, by the numbers kept
    pub passed_sound : (choices : List ℕ)
        → (all (fits_place next) filters && apart same_number filters && all sound_place (placed filters choices)) ≡ all sound_place (placed (map known numbers) choices)
    passed_sound choices =
        ap₂ (λ (b c : Bool). b && c && all sound_place (placed filters choices))
        (p.ranged ∙ all_weaker (fits_place next) is_zero_place (drop i filters) (zero_fits next) zeros)
        (apart_front same_number filters free_filter i is_zero_place p.unlike.differ zero_unlike zeros)
        ∙ same_choices filters (map known numbers) choices (sym (length-map numbers known ∙ p.kept.long)) (λ j. sym (numbers_are j (dec_lt j i)) ∙ ap (λ (f : Filter). f.number) (sym (get_or-map known numbers j 0)))
      where
        numbers_are : (j : ℕ) → Dec (j < i) → get_or numbers j 0 ≡ (get_or filters j free_filter).number
        numbers_are j (yes b) = p.kept.passed j b
        numbers_are j (no n) = p.kept.behind j (omega arith) ∙ sym (zero_behind filters i j zeros (omega arith))

    pub passed_counts : Counts filters counts
    passed_counts = (p.eight, right)
      where
        right : (k : ℕ) → k < 8 → get_or counts k 0 ≡ count (stands_on k) filters
        right k h =
            let e = p.tallied k h in
            let none : count (stands_on k) (drop i filters) ≡ 0 =
            total_none (λ f. cond (stands_on k f) 1 0) (drop i filters) free_filter
            (λ j b. ap (λ (o : Bool). cond o 1 0) (zero_stands k (get_or (drop i filters) j free_filter) (all_at is_zero_place (drop i filters) free_filter zeros j b))) in
            omega arith

-- users that are right at every area are counted
counted_of : (filters : List Filter) (i : ℕ) (areas : List Area)
    → ((k : ℕ) → k < length areas → (get_or areas k free_area).users ≡ count (stands_on (i + k)) filters) → counted filters i areas ≡ true
counted_of filters i [] right = refl
counted_of filters i (a ∷ areas) right =
    true_both (eqb a.users (count (stands_on i) filters)) (counted filters (suc i) areas)
    (eq-eqb _ _ (right 0 (suc-le-suc zero-le) ∙ ap (λ (k : ℕ). count (stands_on k) filters) (add-zero i)))
    (counted_of filters (suc i) areas (λ k h. right (suc k) (suc-le-suc h) ∙ ap (λ (j : ℕ). count (stands_on j) filters) (add-suc i k ∙ sym (suc-add i k))))

pub counted_all : (filters : List Filter) (areas : List Area)
    → ((k : ℕ) → k < length areas → (get_or areas k free_area).users ≡ count (stands_on k) filters) → counted filters 0 areas ≡ true
counted_all filters areas right = counted_of filters 0 areas (λ k h. right k h ∙ ap (λ (j : ℕ). count (stands_on j) filters) (sym (zero-add k)))
