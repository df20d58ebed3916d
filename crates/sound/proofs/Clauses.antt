-- What a sound state tells, clause by clause, and what makes a state sound.
-- Assumes nothing.
use mathlib.Core.Path.{◌≡◌, refl, sym, ◌∙◌, ap}
use mathlib.Core.Bool.{Bool, true, false, cond, ◌&&◌}
use mathlib.Core.List.{List}
use Prim.Native.Nat.{ℕ, ◌≤◌, ◌<◌}
use native.Mathlib.Nat.{zero-add}
use native.Mathlib.Omega.{arith}
use borrow.Author.Tests.{leb-true, le-leb, not-true, eqb-true, eqb-false}
use lib.Dec.{leb, ltb, eqb}
use lib.ListN.{length, get_or}
use Rattle.ground.specs.Walk.{all, apart, count}
use Rattle.ground.proofs.Test.{both_true}
use Rattle.ground.proofs.Walk.{count_le, all_at, passes_inside}
use Rattle.gather.specs.Memory.{no_marks, held_of, sound_marks}
use Rattle.gather.proofs.RuleOnMemory.{none_held}
use Rattle.gather.specs.declared.Marks.{Marks}
use Rattle.state.specs.State.{stands_on, free_area, free_filter, is_open, is_used}
use Rattle.state.specs.Choice.{places_of}
use Rattle.state.specs.declared.Area.{Area}
use Rattle.state.specs.declared.State.{State}
use Rattle.sound.specs.Sound.{sound, sound_area, is_zero_area, sound_filter, sound_next, same_pid, same_number, sound_place, counted}
use Rattle.sound.proofs.Pass.{counted_at}

-- ---- one area
-- a used area is sound by its PID and marks
pub used_sound : (a : Area) → sound_area a ≡ true → is_used a ≡ true → (leb a.pid.0 0x1FFE ≡ true) × (sound_marks a.marks ≡ true)
used_sound a e u =
    both_true (leb a.pid.0 0x1FFE) (sound_marks a.marks)
    (sym (ap (λ (b : Bool). cond b (leb a.pid.0 0x1FFE && sound_marks a.marks) (is_zero_area a)) u) ∙ e)

-- the marks of a free one are all zero
pub free_marks : (a : Area) → sound_area a ≡ true → is_used a ≡ false → a.marks ≡ no_marks
free_marks a e u =
    let zero : is_zero_area a ≡ true = sym (ap (λ (b : Bool). cond b (leb a.pid.0 0x1FFE && sound_marks a.marks) (is_zero_area a)) u) ∙ e in
    let p3 = both_true (eqb a.pid.0 0 && eqb (held_of a.marks) 0 && eqb a.marks.seen 0 && eqb a.marks.counter 0) (eqb a.marks.repeated 0) zero in
    let p2 = both_true (eqb a.pid.0 0 && eqb (held_of a.marks) 0 && eqb a.marks.seen 0) (eqb a.marks.counter 0) p3.0 in
    let p1 = both_true (eqb a.pid.0 0 && eqb (held_of a.marks) 0) (eqb a.marks.seen 0) p2.0 in
    let p0 = both_true (eqb a.pid.0 0) (eqb (held_of a.marks) 0) p1.0 in
    let none = both_true (eqb a.marks.held_low 0) (eqb a.marks.held_high 0) (none_held a.marks.held_low a.marks.held_high ∙ p0.1) in
    all_zero a.marks.held_low a.marks.held_high a.marks.seen a.marks.counter a.marks.repeated none.0 none.1 p1.1 p2.1 p3.1
  where
    all_zero : (l h s c r : ℕ) → eqb l 0 ≡ true → eqb h 0 ≡ true → eqb s 0 ≡ true → eqb c 0 ≡ true → eqb r 0 ≡ true
        → ◌≡◌ {A = Marks} (record { held_low = l; held_high = h; seen = s; counter = c; repeated = r }) no_marks
    all_zero l h s c r lz hz sz cz rz = rw (eqb-true l 0 lz, eqb-true h 0 hz, eqb-true s 0 sz, eqb-true c 0 cz, eqb-true r 0 rz)

-- the marks of any sound area are sound
pub marks_sound : (a : Area) → sound_area a ≡ true → sound_marks a.marks ≡ true
marks_sound a e = go (is_used a) refl
  where
    go : (b : Bool) → is_used a ≡ b → sound_marks a.marks ≡ true
    go true u = (used_sound a e u).1
    go false u = ap sound_marks (free_marks a e u)

-- the clauses of soundness
pub record Clauses (s : State) : Type 0 where
  pub from : 1 ≤ s.next
  pub to : s.next ≤ 65536
  pub areas : all sound_area s.areas ≡ true
  pub pids : apart same_pid s.areas ≡ true
  pub filters : all (sound_filter s.next s.areas) s.filters ≡ true
  pub numbers : apart same_number s.filters ≡ true
  pub choices : all sound_place (places_of s) ≡ true
  pub users : counted s.filters 0 s.areas ≡ true

pub sound_tells : (s : State) → sound s ≡ true → Clauses s
unfolding sound
sound_tells s e =
    let p6 =
    both_true (sound_next s.next && all sound_area s.areas && apart same_pid s.areas && all (sound_filter s.next s.areas) s.filters && apart same_number s.filters && all sound_place (places_of s)) (counted s.filters 0 s.areas) e in
    let p5 = both_true (sound_next s.next && all sound_area s.areas && apart same_pid s.areas && all (sound_filter s.next s.areas) s.filters && apart same_number s.filters) (all sound_place (places_of s)) p6.0 in
    let p4 = both_true (sound_next s.next && all sound_area s.areas && apart same_pid s.areas && all (sound_filter s.next s.areas) s.filters) (apart same_number s.filters) p5.0 in
    let p3 = both_true (sound_next s.next && all sound_area s.areas && apart same_pid s.areas) (all (sound_filter s.next s.areas) s.filters) p4.0 in
    let p2 = both_true (sound_next s.next && all sound_area s.areas) (apart same_pid s.areas) p3.0 in
    let p1 = both_true (sound_next s.next) (all sound_area s.areas) p2.0 in
    let p0 = both_true (leb 1 s.next) (leb s.next 65536) p1.0 in
    record {
      from = leb-true 1 s.next p0.0;
      to = leb-true s.next 65536 p0.1;
      areas = p1.1;
      pids = p2.1;
      filters = p3.1;
      numbers = p4.1;
      choices = p5.1;
      users = p6.1;
    }

pub sound_says : (s : State) → Clauses s → sound s ≡ true
unfolding sound
sound_says s k = rw (le-leb 1 s.next k.from, le-leb s.next 65536 k.to, k.areas, k.pids, k.filters, k.numbers, k.choices, k.users)

-- a user count is that of the open filters on the area
pub users_are : (s : State) → Clauses s → (i : ℕ) → i < length s.areas → (get_or s.areas i free_area).users ≡ count (stands_on i) s.filters
users_are s k i h = counted_at s.filters 0 s.areas k.users i h ∙ ap (λ (j : ℕ). count (stands_on j) s.filters) (zero-add i)

pub users_few : (s : State) → Clauses s → (i : ℕ) → i < length s.areas → (get_or s.areas i free_area).users ≤ length s.filters
users_few s k i h = let e = users_are s k i h in let most = count_le (stands_on i) s.filters in omega arith

-- an open filter stands on a used area
pub open_stands : (s : State) → Clauses s → (j : ℕ) → j < length s.filters → is_open (get_or s.filters j free_filter) ≡ true
    → is_used (get_or s.areas (get_or s.filters j free_filter).area free_area) ≡ true
open_stands s k j h o =
    let f = get_or s.filters j free_filter in
    (both_true (ltb f.number s.next) (is_used (get_or s.areas f.area free_area))
    (sym (ap (λ (b : Bool). cond b (ltb f.number s.next && is_used (get_or s.areas f.area free_area)) (eqb f.area 0)) o)
    ∙ all_at (sound_filter s.next s.areas) s.filters free_filter k.filters j h)
    ).1

-- and a used area is one of the list
pub used_inside : (areas : List Area) (i : ℕ) → is_used (get_or areas i free_area) ≡ true → i < length areas
used_inside areas i u = passes_inside is_used areas i free_area refl u

pub used_some : (a : Area) → is_used a ≡ true → 0 < a.users
used_some a u = let n = eqb-false a.users 0 (not-true (eqb a.users 0) u) in omega arith

-- the marks of a sound state's areas are sound
pub area_marks : (s : State) → Clauses s → (i : ℕ) → i < length s.areas → sound_marks (get_or s.areas i free_area).marks ≡ true
area_marks s k i h = marks_sound (get_or s.areas i free_area) (all_at sound_area s.areas free_area k.areas i h)
