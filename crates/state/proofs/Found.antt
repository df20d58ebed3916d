-- What is found passed the test: the area of a PID is used and has it, and the filter of a number is open and has it.
-- Assumes nothing.
use mathlib.Core.Path.{◌≡◌, refl, sym, ◌∙◌, ap}
use mathlib.Core.Bool.{Bool, true, false, cond}
use mathlib.Core.List.{List}
use Prim.Native.Nat.{ℕ, suc, ◌+◌, ◌≤◌, ◌<◌}
use native.Mathlib.Omega.{arith}
use borrow.Author.Tests.{eqb-true, eq-eqb, ltb-true, ltb-false}
use lib.Dec.{eqb, ltb}
use lib.ListN.{length, get_or}
use Rattle.std.specs.Prelude.{Option, Some, None}
use Rattle.std.specs.Option.{unwrap_or}
use Rattle.std.specs.List.{position}
use Rattle.std.proofs.lemmas.List.Recursion.{is_position_or_len}
use Rattle.ground.specs.Walk.{find}
use Rattle.ground.proofs.Test.{both_true, true_both}
use Rattle.ground.proofs.Walk.{find_passes}
use Rattle.state.specs.State.{is_used, is_open, has_pid, has_number, area_of, place_of, free_area, free_filter}
use Rattle.state.specs.declared.Area.{Area}
use Rattle.state.specs.declared.Filter.{Filter}

-- the first element that passes is found at its index, and none where the index is the number of all
pub found_at : {A : Type 0} (p : A → Bool) (l : List A) → position p l ≡ cond (ltb (find p l) (length l)) (Some (find p l)) None
found_at {A} p l = rw (is_position_or_len (find p) p refl (λ x xs. ap (λ (k : ℕ). cond (p x) 0 k) (sym (one-add (find p xs)))) l)
  where
    one-add : (j : ℕ) → 1 + j ≡ suc j
    one-add j = omega arith

pub some_same : {x y : ℕ} → ◌≡◌ {A = Option ℕ} (Some x) (Some y) → x ≡ y
some_same {x} {y} h = ap (λ (o : Option ℕ). unwrap_or o 0) h

pub some_none : {x : ℕ} → ◌≡◌ {A = Option ℕ} (Some x) None → ⊥
some_none h = cc

pub index_some : {A : Type 0} (p : A → Bool) (l : List A) {i : ℕ} → Some i ≡ position p l → (i ≡ find p l) × (find p l < length l)
index_some p l {i} e = go (ltb (find p l) (length l)) refl
  where
    go : (b : Bool) → ltb (find p l) (length l) ≡ b → (i ≡ find p l) × (find p l < length l)
    go true t = (some_same ((e ∙ found_at p l ∙ ap (λ (b : Bool). cond b (Some (find p l)) None) t)), ltb-true (find p l) (length l) t)
    go false t = absurd (some_none (e ∙ found_at p l ∙ ap (λ (b : Bool). cond b (Some (find p l)) None) t))

pub index_none : {A : Type 0} (p : A → Bool) (l : List A) → None ≡ position p l → length l ≤ find p l
index_none p l e = go (ltb (find p l) (length l)) refl
  where
    go : (b : Bool) → ltb (find p l) (length l) ≡ b → length l ≤ find p l
    go true t = absurd (some_none (sym (e ∙ found_at p l ∙ ap (λ (b : Bool). cond b (Some (find p l)) None) t)))
    go false t = ltb-false (find p l) (length l) t

-- an index that is less than their number is found, and one that is not isn't
pub found_index : {A : Type 0} (p : A → Bool) (l : List A) {n : ℕ} → length l ≡ n → position p l ≡ cond (ltb (find p l) n) (Some (find p l)) None
found_index p l long = rw (← long) (found_at p l)

pub has_pid_lem : (pid : ℕ) (a : Area) → is_used a ≡ true → a.pid.0 ≡ pid → has_pid pid a ≡ true
has_pid_lem pid a u e = true_both (is_used a) (eqb a.pid.0 pid) u (eq-eqb a.pid.0 pid e)

pub found_area : (pid : ℕ) (areas : List Area) → area_of pid areas < length areas
    → (is_used (get_or areas (area_of pid areas) free_area) ≡ true) × ((get_or areas (area_of pid areas) free_area).pid.0 ≡ pid)
found_area pid areas b =
    let a = get_or areas (area_of pid areas) free_area in
    let p = both_true (is_used a) (eqb a.pid.0 pid) (find_passes (has_pid pid) areas free_area b) in
    (p.0, eqb-true a.pid.0 pid p.1)

pub found_place : (number : ℕ) (filters : List Filter) → place_of number filters < length filters
    → (is_open (get_or filters (place_of number filters) free_filter) ≡ true) × ((get_or filters (place_of number filters) free_filter).number ≡ number)
found_place number filters b =
    let f = get_or filters (place_of number filters) free_filter in
    let p = both_true (is_open f) (eqb f.number number) (find_passes (has_number number) filters free_filter b) in
    (p.0, eqb-true f.number number p.1)
