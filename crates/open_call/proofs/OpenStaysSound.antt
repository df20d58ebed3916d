-- An open keeps the state sound: the filter takes a free place and a number that none has, and its area's PID is on no other area.
-- Assumes nothing.
use mathlib.Core.Path.{◌≡◌, refl, sym, ◌∙◌, ap, ap₂}
use mathlib.Core.Bool.{Bool, true, false, cond, not, ◌&&◌}
use mathlib.Core.List.{List}
use Prim.Native.Nat.{ℕ, ◌+◌, ◌≤◌, ◌<◌}
use native.Mathlib.Decide.{ℕ_discrete}
use native.Mathlib.Omega.{arith}
use borrow.Author.Tests.{le-leb, ltb-true, lt-ltb, ltb-false, not-false, eqb-true, eq-eqb, ne_eqb}
use lib.Dec.{ltb, eqb}
use lib.ListN.{length, get_or, set, length-set}
use lib.Seq.{get_or-set_same, get_or-set_other}
use Rattle.ground.specs.Walk.{apart, count}
use Rattle.ground.proofs.Test.{both_true, true_both}
use Rattle.ground.proofs.Walk.{all_at, all_of, all_set, apart_set, find_passes, find_first, total-set}
use Rattle.state.specs.State.{is_used, is_open, is_free, stands_on, free_area, free_filter, has_pid, area_of, free_area_of}
use Rattle.state.specs.Choice.{sound_choice, choice_of}
use Rattle.state.specs.declared.Area.{Area}
use Rattle.state.specs.declared.Filter.{Filter}
use Rattle.state.specs.declared.State.{State}
use Rattle.sound.specs.Sound.{sound_area, sound_filter, same_pid, same_number}
use Rattle.sound.proofs.Choices.{choices_set}
use Rattle.sound.proofs.Pass.{counted_all}
use Rattle.sound.proofs.Clauses.{Clauses, users_are, marks_sound}
use Rattle.sound.proofs.Pids.{only_one, lonely}
use Rattle.open_call.specs.Open.{area_for, with_user, with_filter}

-- ---- the area that an open takes
-- the PID's own area, or the lowest free one
pub data ForPid (pid : ℕ) (areas : List Area) : ℕ → Type 0 where
  own : area_of pid areas < length areas → ForPid pid areas (area_of pid areas)
  new : length areas ≤ area_of pid areas → ForPid pid areas (free_area_of areas)

pub for_pid : (pid : ℕ) (areas : List Area) → ForPid pid areas (area_for pid areas)
for_pid pid areas = go (ltb (area_of pid areas) (length areas)) refl
  where
    go : (b : Bool) → ltb (area_of pid areas) (length areas) ≡ b → ForPid pid areas (cond b (area_of pid areas) (free_area_of areas))
    go true e = own (ltb-true (area_of pid areas) (length areas) e)
    go false e = new (ltb-false (area_of pid areas) (length areas) e)

-- no other area has the PID
pub others : (pid : ℕ) (areas : List Area) {i : ℕ} → ForPid pid areas i → apart same_pid areas ≡ true
    → (j : ℕ) → j < length areas → (j ≡ i → ⊥) → has_pid pid (get_or areas j free_area) ≡ false
others pid areas (own l) e j h n = go (has_pid pid (get_or areas j free_area)) refl
  where
    go : (b : Bool) → has_pid pid (get_or areas j free_area) ≡ b → b ≡ false
    go false q = refl
    go true q = absurd (n (only_one pid areas e j (area_of pid areas) h l q (find_passes (has_pid pid) areas free_area l)))
others pid areas (new l) e j h n = find_first (has_pid pid) areas free_area j (omega arith)

-- the area with the filter's user more is sound
with_user_sound : (pid : ℕ) (a : Area) → pid ≤ 0x1FFE → sound_area a ≡ true → sound_area (with_user pid a) ≡ true
with_user_sound pid a h e = rw (used, le-leb pid 0x1FFE h) (marks_sound a e)
  where
    used : is_used (with_user pid a) ≡ true
    used = ap not (ne_eqb (a.users + 1) 0 (omega arith))

-- ---- the filter that an open makes
module _ (s : State) (pid code a p : ℕ) (k : Clauses s) (low : pid ≤ 0x1FFE) (chosen : sound_choice (choice_of code) ≡ true) (more : s.next ≤ 65535) (t : ForPid pid s.areas a)
    (ha : a < length s.areas) (hp : p < length s.filters) (free : is_free (get_or s.filters p free_filter) ≡ true) where
  abbrev area : Area
  area = with_user pid (get_or s.areas a free_area)

  abbrev filter : Filter
  filter = record { number = s.next; area = a }

  filter_open : is_open filter ≡ true
  filter_open = ap not (ne_eqb s.next 0 (let one = k.from in omega arith))

  area_used : is_used area ≡ true
  area_used = ap not (ne_eqb ((get_or s.areas a free_area).users + 1) 0 (omega arith))

  -- a used area is used still
  used_still : (i : ℕ) → is_used (get_or s.areas i free_area) ≡ true → is_used (get_or (set s.areas a area) i free_area) ≡ true
  used_still i u = go (ℕ_discrete i a)
    where
      go : Dec (i ≡ a) → is_used (get_or (set s.areas a area) i free_area) ≡ true
      go (yes e) = ap (λ (j : ℕ). is_used (get_or (set s.areas a area) j free_area)) e ∙ ap is_used (get_or-set_same s.areas a area free_area ha) ∙ area_used
      go (no n) = ap is_used (get_or-set_other s.areas a i area free_area n) ∙ u

  -- a sound filter is sound still
  filter_still : (f : Filter) → sound_filter s.next s.areas f ≡ true → sound_filter (s.next + 1) (set s.areas a area) f ≡ true
  filter_still f e = go (is_open f) e
    where
      go : (o : Bool) → cond o (ltb f.number s.next && is_used (get_or s.areas f.area free_area)) (eqb f.area 0) ≡ true
          → cond o (ltb f.number (s.next + 1) && is_used (get_or (set s.areas a area) f.area free_area)) (eqb f.area 0) ≡ true
      go false e = e
      go true e =
          let parts = both_true (ltb f.number s.next) (is_used (get_or s.areas f.area free_area)) e in
          let below = ltb-true f.number s.next parts.0 in
          true_both (ltb f.number (s.next + 1)) _ (lt-ltb f.number (s.next + 1) (omega arith)) (used_still f.area parts.1)

  filter_sound : sound_filter (s.next + 1) (set s.areas a area) filter ≡ true
  filter_sound =
      ap (λ (o : Bool). cond o (ltb s.next (s.next + 1) && is_used (get_or (set s.areas a area) a free_area)) (eqb a 0)) filter_open
      ∙ true_both (ltb s.next (s.next + 1)) _ (lt-ltb s.next (s.next + 1) (omega arith))
      (ap is_used (get_or-set_same s.areas a area free_area ha) ∙ area_used)

  -- no filter has the number yet
  number_new : (j : ℕ) → j < length s.filters → (get_or s.filters j free_filter).number ≡ s.next → ⊥
  number_new j h e = go (is_open (get_or s.filters j free_filter)) refl
    where
      go : (o : Bool) → is_open (get_or s.filters j free_filter) ≡ o → ⊥
      go false o =
          let z : (get_or s.filters j free_filter).number ≡ 0 = eqb-true _ 0 (not-false (eqb (get_or s.filters j free_filter).number 0) o) in
          let one = k.from in
          omega arith
      go true o =
          let f = get_or s.filters j free_filter in
          let q = sym (ap (λ (b : Bool). cond b (ltb f.number s.next && is_used (get_or s.areas f.area free_area)) (eqb f.area 0)) o)
          ∙ all_at (sound_filter s.next s.areas) s.filters free_filter k.filters j h in
          let below = ltb-true f.number s.next (both_true (ltb f.number s.next) _ q).0 in
          omega arith

  differs : (j : ℕ) → j < length s.filters → (j ≡ p → ⊥)
      → (same_number filter (get_or s.filters j free_filter) ≡ false) × (same_number (get_or s.filters j free_filter) filter ≡ false)
  differs j h n =
      let other = number_new j h in (
        ap (λ (b : Bool). b && eqb s.next (get_or s.filters j free_filter).number) filter_open ∙ ne_eqb s.next _ (λ e. other (sym e)),
        ap (λ (b : Bool). is_open (get_or s.filters j free_filter) && b) (ne_eqb _ s.next other) ∙ last (is_open (get_or s.filters j free_filter)),
      )
    where
      last : (b : Bool) → (b && false) ≡ false
      last true = refl
      last false = refl

  -- the users are those before and this one
  users_right : (i : ℕ) → i < length (set s.areas a area) → (get_or (set s.areas a area) i free_area).users ≡ count (stands_on i) (set s.filters p filter)
  users_right i h = go (ℕ_discrete i a)
    where
      store : count (stands_on i) (set s.filters p filter) + cond (stands_on i (get_or s.filters p free_filter)) 1 0 ≡ count (stands_on i) s.filters + cond (stands_on i filter) 1 0
      store = total-set (λ f. cond (stands_on i f) 1 0) s.filters p filter free_filter hp

      before : ◌≡◌ {A = ℕ} (cond (stands_on i (get_or s.filters p free_filter)) 1 0) 0
      before = ap (λ (b : Bool). cond (not b && eqb (get_or s.filters p free_filter).area i) 1 0) free

      inside : i < length s.areas
      inside = rw length-set at h

      go : Dec (i ≡ a) → (get_or (set s.areas a area) i free_area).users ≡ count (stands_on i) (set s.filters p filter)
      go (yes e) =
          let one : ◌≡◌ {A = ℕ} (cond (stands_on i filter) 1 0) 1 = ap₂ (λ (b c : Bool). cond (b && c) 1 0) filter_open (eq-eqb a i (sym e)) in
          let users : (get_or (set s.areas a area) i free_area).users ≡ (get_or s.areas i free_area).users + 1 =
          rw e (ap (λ (x : Area). x.users) (get_or-set_same s.areas a area free_area ha)) in
          let were = users_are s k i inside in
          let st = store in
          let bf = before in
          omega arith
      go (no n) =
          let none : ◌≡◌ {A = ℕ} (cond (stands_on i filter) 1 0) 0 = ap₂ (λ (b c : Bool). cond (b && c) 1 0) filter_open (ne_eqb a i (λ q. n (sym q))) in
          let users : (get_or (set s.areas a area) i free_area).users ≡ (get_or s.areas i free_area).users =
          ap (λ (x : Area). x.users) (get_or-set_other s.areas a i area free_area n) in
          let were = users_are s k i inside in
          let st = store in
          let bf = before in
          omega arith

  -- the state with the filter is sound
  pub opened_clauses : Clauses (with_filter s pid code a p)
  opened_clauses =
      record {
        from = omega arith;
        to = omega arith;
        areas = all_set sound_area s.areas a area free_area k.areas (with_user_sound pid (get_or s.areas a free_area) low (all_at sound_area s.areas free_area k.areas a ha));
        pids = apart_set same_pid s.areas a area free_area k.pids (λ j h n. lonely area (get_or s.areas j free_area) (others pid s.areas t k.pids j h n));
        filters =
            all_set (sound_filter (s.next + 1) (set s.areas a area)) s.filters p filter free_filter
            (all_of (sound_filter (s.next + 1) (set s.areas a area)) s.filters free_filter
            (λ j h. filter_still (get_or s.filters j free_filter) (all_at (sound_filter s.next s.areas) s.filters free_filter k.filters j h)))
            filter_sound;
        numbers = apart_set same_number s.filters p filter free_filter k.numbers differs;
        choices = choices_set s.filters s.choices p filter code hp k.choices (ap (λ (b : Bool). cond b (sound_choice (choice_of code)) (eqb code 0)) filter_open ∙ chosen);
        users = counted_all (set s.filters p filter) (set s.areas a area) users_right;
      }
