-- A close keeps the state sound: the place is free again, and its area goes with its last user and no sooner.
-- Assumes nothing.
use mathlib.Core.Path.{◌≡◌, refl, sym, ◌∙◌, ap, ap₂}
use mathlib.Core.Bool.{Bool, true, false, cond, not, ◌&&◌, false≢true}
use mathlib.Core.List.{List}
use Prim.Native.Nat.{ℕ, ◌+◌, ◌-◌, ◌<◌}
use native.Mathlib.Decide.{ℕ_discrete}
use native.Mathlib.Omega.{arith}
use borrow.Author.Tests.{eq-eqb, ne_eqb}
use lib.Dec.{ltb, eqb}
use lib.ListN.{length, get_or, set, length-set}
use lib.Seq.{get_or-set_same, get_or-set_other}
use Rattle.ground.specs.Walk.{count}
use Rattle.ground.proofs.Test.{both_true, true_both}
use Rattle.ground.proofs.Walk.{all_at, all_of, all_set, apart_set, total-set}
use Rattle.state.specs.State.{is_used, is_open, stands_on, free_area, free_filter, has_pid}
use Rattle.state.specs.declared.Area.{Area}
use Rattle.state.specs.declared.Filter.{Filter}
use Rattle.state.specs.declared.State.{State}
use Rattle.sound.specs.Sound.{sound_area, sound_filter, same_pid, same_number}
use Rattle.sound.proofs.Choices.{choices_set}
use Rattle.sound.proofs.Pass.{counted_all, stands_counted}
use Rattle.sound.proofs.Clauses.{Clauses, users_are, open_stands, used_inside, used_some, used_sound}
use Rattle.sound.proofs.Pids.{only_one, lonely}
use Rattle.close_call.specs.Close.{without_user, area_at, without_filter}

-- the area that a user has left is sound
without_user_sound : (a : Area) → 0 < a.users → sound_area a ≡ true → sound_area (without_user a) ≡ true
without_user_sound a some e = go (ℕ_discrete a.users 1)
  where
    go : Dec (a.users ≡ 1) → sound_area (without_user a) ≡ true
    go (yes q) = rw (eq-eqb a.users 1 q)
    go (no n) =
        let parts = used_sound a e (ap not (ne_eqb a.users 0 (omega arith))) in
        rw (ne_eqb a.users 1 n, ne_eqb (a.users - 1) 0 (omega arith), parts.0) parts.1

-- it is used still exactly where it had another user, and then it has its PID still
without_user_used : (a : Area) → (is_used (without_user a) ≡ true) → (without_user a).pid ≡ a.pid
without_user_used a u = go (ℕ_discrete a.users 1)
  where
    go : Dec (a.users ≡ 1) → (without_user a).pid ≡ a.pid
    go (yes q) = absurd (false≢true (rw (eq-eqb a.users 1 q) at u))
    go (no n) = rw (ne_eqb a.users 1 n)

without_user_users : (a : Area) → 0 < a.users → (without_user a).users + 1 ≡ a.users
without_user_users a some = go (ℕ_discrete a.users 1)
  where
    go : Dec (a.users ≡ 1) → (without_user a).users + 1 ≡ a.users
    go (yes q) = rw (eq-eqb a.users 1 q) (sym q)
    go (no n) = rw (ne_eqb a.users 1 n) (omega arith)

never : (b : Bool) → (not b && b) ≡ false
never true = refl
never false = refl

-- a filter that is in order stands on a used area wherever the users are counted
open_sound : (next : ℕ) (areas after : List Area) (filters : List Filter) (j : ℕ) → j < length filters → length after ≡ length areas
    → ((i : ℕ) → i < length after → (get_or after i free_area).users ≡ count (stands_on i) filters)
    → sound_filter next areas (get_or filters j free_filter) ≡ true → sound_filter next after (get_or filters j free_filter) ≡ true
open_sound next areas after filters j h long right e = go (is_open (get_or filters j free_filter)) refl e
  where
    go : (b : Bool) → is_open (get_or filters j free_filter) ≡ b
        → cond b (ltb (get_or filters j free_filter).number next && is_used (get_or areas (get_or filters j free_filter).area free_area)) (eqb (get_or filters j free_filter).area 0) ≡ true
        → cond b (ltb (get_or filters j free_filter).number next && is_used (get_or after (get_or filters j free_filter).area free_area)) (eqb (get_or filters j free_filter).area 0) ≡ true
    go false q e = e
    go true q e =
        let f = get_or filters j free_filter in
        let parts = both_true (ltb f.number next) (is_used (get_or areas f.area free_area)) e in
        let inside : f.area < length after = rw long (used_inside areas f.area parts.1) in
        let counted_there = stands_counted filters j f.area h (true_both (is_open f) _ q (eq-eqb f.area f.area refl)) in
        let users = right f.area inside in
        true_both (ltb f.number next) _ parts.0 (ap not (ne_eqb (get_or after f.area free_area).users 0 (omega arith)))

module _ (s : State) (p : ℕ) (k : Clauses s) (hp : p < length s.filters) (o : is_open (get_or s.filters p free_filter) ≡ true) where
  abbrev area : Area
  area = without_user (get_or s.areas (area_at s p) free_area)

  was_used : is_used (get_or s.areas (area_at s p) free_area) ≡ true
  was_used = open_stands s k p hp o

  ha : area_at s p < length s.areas
  ha = used_inside s.areas (area_at s p) was_used

  some : 0 < (get_or s.areas (area_at s p) free_area).users
  some = used_some (get_or s.areas (area_at s p) free_area) was_used

  -- no other area has its PID
  alone : (j : ℕ) → j < length s.areas → (j ≡ area_at s p → ⊥) → (same_pid area (get_or s.areas j free_area) ≡ false) × (same_pid (get_or s.areas j free_area) area ≡ false)
  alone j h n = go (is_used area) refl
    where
      go : (b : Bool) → is_used area ≡ b → (same_pid area (get_or s.areas j free_area) ≡ false) × (same_pid (get_or s.areas j free_area) area ≡ false)
      go false u = (
        ap (λ (b : Bool). b && is_used (get_or s.areas j free_area) && eqb area.pid.0 (get_or s.areas j free_area).pid.0) u,
        ap (λ (b : Bool). is_used (get_or s.areas j free_area) && b && eqb (get_or s.areas j free_area).pid.0 area.pid.0) u ∙ last (is_used (get_or s.areas j free_area)),
      )
        where
          last : (b : Bool) → (b && false && eqb (get_or s.areas j free_area).pid.0 area.pid.0) ≡ false
          last true = refl
          last false = refl
      go true u = lonely area (get_or s.areas j free_area) (none (has_pid area.pid.0 (get_or s.areas j free_area)) refl)
        where
          none : (b : Bool) → has_pid area.pid.0 (get_or s.areas j free_area) ≡ b → b ≡ false
          none false e = refl
          none true e =
              absurd
              (n
              (only_one area.pid.0 s.areas k.pids j (area_at s p) h ha e
              (true_both (is_used (get_or s.areas (area_at s p) free_area)) _ was_used
              (eq-eqb (get_or s.areas (area_at s p) free_area).pid.0 area.pid.0 (sym (ap (λ x. x.0) (without_user_used (get_or s.areas (area_at s p) free_area) u)))))))

  -- the users are those before less this one
  store : (i : ℕ) → count (stands_on i) (set s.filters p free_filter) + cond (stands_on i (get_or s.filters p free_filter)) 1 0 ≡ count (stands_on i) s.filters
  store i = let e = total-set (λ f. cond (stands_on i f) 1 0) s.filters p free_filter free_filter hp in omega arith

  users_right : (i : ℕ) → i < length (set s.areas (area_at s p) area) → (get_or (set s.areas (area_at s p) area) i free_area).users ≡ count (stands_on i) (set s.filters p free_filter)
  users_right i h = go (ℕ_discrete i (area_at s p))
    where
      inside : i < length s.areas
      inside = rw length-set at h

      go : Dec (i ≡ area_at s p) → (get_or (set s.areas (area_at s p) area) i free_area).users ≡ count (stands_on i) (set s.filters p free_filter)
      go (yes e) =
          let one : ◌≡◌ {A = ℕ} (cond (stands_on i (get_or s.filters p free_filter)) 1 0) 1 = ap₂ (λ (b c : Bool). cond (b && c) 1 0) o (eq-eqb (area_at s p) i (sym e)) in
          let users : (get_or (set s.areas (area_at s p) area) i free_area).users ≡ area.users =
          rw e (ap (λ (x : Area). x.users) (get_or-set_same s.areas (area_at s p) area free_area ha)) in
          let less : area.users + 1 ≡ (get_or s.areas i free_area).users = rw e (without_user_users (get_or s.areas (area_at s p) free_area) some) in
          let were = users_are s k i inside in
          let st = store i in
          omega arith
      go (no n) =
          let none : ◌≡◌ {A = ℕ} (cond (stands_on i (get_or s.filters p free_filter)) 1 0) 0 = ap₂ (λ (b c : Bool). cond (b && c) 1 0) o (ne_eqb (area_at s p) i (λ q. n (sym q))) in
          let users : (get_or (set s.areas (area_at s p) area) i free_area).users ≡ (get_or s.areas i free_area).users =
          ap (λ (x : Area). x.users) (get_or-set_other s.areas (area_at s p) i area free_area n) in
          let were = users_are s k i inside in
          let st = store i in
          omega arith

  -- whoever stands on an area still stands on a used one
  as_given : (j : ℕ) → j < length s.filters → sound_filter s.next (set s.areas (area_at s p) area) (get_or (set s.filters p free_filter) j free_filter) ≡ true
  as_given j h = go (ℕ_discrete j p)
    where
      go : Dec (j ≡ p) → sound_filter s.next (set s.areas (area_at s p) area) (get_or (set s.filters p free_filter) j free_filter) ≡ true
      go (yes e) =
          let freed : get_or (set s.filters p free_filter) j free_filter ≡ free_filter = rw e (get_or-set_same s.filters p free_filter free_filter hp) in
          ap (λ (f : Filter). sound_filter s.next (set s.areas (area_at s p) area) f) freed
      go (no n) =
          open_sound s.next s.areas (set s.areas (area_at s p) area) (set s.filters p free_filter) j (rw length-set h)
          (length-set s.areas (area_at s p) area) users_right sound_before
        where
          same : get_or (set s.filters p free_filter) j free_filter ≡ get_or s.filters j free_filter
          same = get_or-set_other s.filters p j free_filter free_filter n

          sound_before : sound_filter s.next s.areas (get_or (set s.filters p free_filter) j free_filter) ≡ true
          sound_before = ap (sound_filter s.next s.areas) same ∙ all_at (sound_filter s.next s.areas) s.filters free_filter k.filters j h

  pub closed_clauses : Clauses (without_filter s p)
  closed_clauses =
      record {
        from = k.from;
        to = k.to;
        areas =
            all_set sound_area s.areas (area_at s p) area free_area k.areas
            (without_user_sound (get_or s.areas (area_at s p) free_area) some (all_at sound_area s.areas free_area k.areas (area_at s p) ha));
        pids = apart_set same_pid s.areas (area_at s p) area free_area k.pids alone;
        filters = all_of (sound_filter s.next (set s.areas (area_at s p) area)) (set s.filters p free_filter) free_filter (λ j h. as_given j (rw length-set at h));
        numbers = apart_set same_number s.filters p free_filter free_filter k.numbers (λ j h n. (refl, never (eqb (get_or s.filters j free_filter).number 0)));
        choices = choices_set s.filters s.choices p free_filter 0 hp k.choices refl;
        users = counted_all (set s.filters p free_filter) (set s.areas (area_at s p) area) users_right;
      }
