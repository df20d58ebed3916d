-- Each return is the first row of the table that applies; a sound state's user counts leave room for one more.
-- Assumes nothing.
use mathlib.Core.Path.{◌≡◌, refl, sym, ◌∙◌, ap}
use mathlib.Core.Bool.{Bool, true, false, cond, not}
use Prim.Native.Nat.{ℕ, ◌<◌, ◌≤◌}
use mathlib.Core.List.{List}
use borrow.Author.Tests.{ltb-true, ltb-false}
use lib.Dec.{ltb}
use Rattle.std.specs.Prelude.{Some, None}
use Rattle.std.proofs.lemmas.Result.{err_from_is_err_and}
use Rattle.ground.specs.declared.Refusal.TheVariants as refusal
use native.Mathlib.Omega.{arith}
use lib.ListN.{length}
use borrow.Author.Rules.{rules}
use Rattle.ground.proofs.Refused.{tests, yes, no}
use Rattle.ground.proofs.Walk.{mapped_length}
use Rattle.state.specs.State.{free_place_of, is_free}
use Rattle.state.specs.declared.Area.{Area}
use Rattle.state.specs.declared.Choice.{Choice}
use Rattle.state.specs.declared.State.{State}
use Rattle.state.proofs.Found.{some_same, some_none, index_some, index_none}
use Rattle.state.specs.Choice.{sound_choice, code_of}
use Rattle.state.proofs.Chosen.{choice_sound, choice_unsound}
use Rattle.sound.specs.Sound.{sound}
use Rattle.sound.proofs.Clauses.{sound_tells, users_few}
use Rattle.open_call.specs.Open.{open_of, area_for}
use Rattle.open_call.specs.Steps.{area_found}
use Rattle.open_call.proofs.granted.Goals as goal

-- the area that was found, or that there is none
some_found : (pid : ℕ) (areas : List Area) {i : ℕ} → Some i ≡ area_found pid areas → (i ≡ area_for pid areas) × (area_for pid areas < length areas)
some_found pid areas {i} e = go (ltb (area_for pid areas) (length areas)) refl e
  where
    go : (b : Bool) → ltb (area_for pid areas) (length areas) ≡ b → Some i ≡ cond b (Some (area_for pid areas)) None
        → (i ≡ area_for pid areas) × (area_for pid areas < length areas)
    go true t e = (some_same e, ltb-true _ _ t)
    go false t e = absurd (some_none e)

none_found : (pid : ℕ) (areas : List Area) → None ≡ area_found pid areas → length areas ≤ area_for pid areas
none_found pid areas e = go (ltb (area_for pid areas) (length areas)) refl e
  where
    go : (b : Bool) → ltb (area_for pid areas) (length areas) ≡ b → None ≡ cond b (Some (area_for pid areas)) None → length areas ≤ area_for pid areas
    go true t e = absurd (some_none (sym e))
    go false t e = ltb-false _ _ t

-- the first row and the one of the choice do not apply
state_passes : (s : State) {told : Bool} → told ≡ sound s → told ≡ true → not (sound s) ≡ false
state_passes s e yes = ap not (sym e ∙ yes)

choice_passes : (choice : Choice) {code : ℕ} → code ≡ code_of choice → code ≤ 255 → not (sound_choice choice) ≡ false
choice_passes choice e h = ap not (choice_sound choice (rw e at h))

pub returns-then-not-is_sound : goal.returns-then-not-is_sound
unfolding open_of
returns-then-not-is_sound c =
    let unsound : not (sound c.args.state) ≡ true = ap not (sym c.is_sound.ensures ∙ c.if-not-is_sound.true) in
    search (yes, tests)

pub returns-then-pid-gt-LAST_FILTER_PID : goal.returns-then-pid-gt-LAST_FILTER_PID
unfolding open_of
returns-then-pid-gt-LAST_FILTER_PID c =
    let fine = state_passes c.args.state c.is_sound.ensures c.if-not-is_sound.false in
    search (yes, no, tests)

pub returns-then-code-gt-LAST_CHOICE : goal.returns-then-code-gt-LAST_CHOICE
unfolding open_of
returns-then-code-gt-LAST_CHOICE c =
    let a = c.args in
    let fine = state_passes a.state c.is_sound.ensures c.if-not-is_sound.false in
    let above : 255 < code_of a.choice = omega (arith, c.code_of-code.ensures, c.if-code-gt-LAST_CHOICE.true) in
    let barred : not (sound_choice a.choice) ≡ true = ap not (choice_unsound a.choice above) in
    search (yes, no, tests)

pub returns-then-state-gt-LAST_NUMBER : goal.returns-then-state-gt-LAST_NUMBER
unfolding open_of
returns-then-state-gt-LAST_NUMBER c =
    let a = c.args in
    let chosen = choice_passes a.choice c.code_of-code.ensures c.if-code-gt-LAST_CHOICE.false in
    let fine = state_passes a.state c.is_sound.ensures c.if-not-is_sound.false in
    search (yes, no, tests)

pub returns-in_err-place : goal.returns-in_err-place
unfolding open_of
returns-in_err-place c =
    let a = c.args in
    let s = a.state in
    let chosen = choice_passes a.choice c.code_of-code.ensures c.if-code-gt-LAST_CHOICE.false in
    let fine = state_passes s c.is_sound.ensures c.if-not-is_sound.false in
    let none : c.free_place.result ≡ None = grind arith in
    let full : length s.filters ≤ free_place_of s.filters = index_none is_free s.filters (sym none ∙ c.free_place.ensures) in
    let why : c.in_err-place.field-0.0 ≡ refusal.NoFreePlace = grind arith in
    let p = err_from_is_err_and c.from_residual.result c.from_residual.ensures.1 in
    rw (p.1, p.2, why) (search (yes, no, tests))

pub returns-in_err-area : goal.returns-in_err-area
unfolding open_of
returns-in_err-area c =
    let a = c.args in
    let s = a.state in
    let chosen = choice_passes a.choice c.code_of-code.ensures c.if-code-gt-LAST_CHOICE.false in
    let fine = state_passes s c.is_sound.ensures c.if-not-is_sound.false in
    let some : c.free_place.result ≡ Some c.in_ok-place.place = grind arith in
    let room : free_place_of s.filters < length s.filters = (index_some is_free s.filters (sym some ∙ c.free_place.ensures)).1 in
    let none : c.area_for.result ≡ None = grind arith in
    let full : length s.areas ≤ area_for a.pid.0 s.areas = none_found a.pid.0 s.areas (sym none ∙ c.area_for.ensures) in
    let why : c.in_err-area.field-0.0 ≡ refusal.NoFreeArea = grind arith in
    let p = err_from_is_err_and c.from_residual-in_err-area.result c.from_residual-in_err-area.ensures.1 in
    rw (p.1, p.2, why) (search (yes, no, tests) depth 8)

pub with_filter-requires : goal.with_filter-requires
with_filter-requires c =
    let a = c.args in
    let s = a.state in
    let areas : length s.areas ≡ 8 = search (rules, mapped_length) in
    let places : length s.filters ≡ 32 = search (rules, mapped_length) in
    let fine : sound s ≡ true = sym c.is_sound.ensures ∙ c.if-not-is_sound.false in
    let some : c.free_place.result ≡ Some c.in_ok-place.place = grind arith in
    let place = index_some is_free s.filters (sym some ∙ c.free_place.ensures) in
    let found : c.area_for.result ≡ Some c.in_ok-area.area = grind arith in
    let area = some_found a.pid.0 s.areas (sym found ∙ c.area_for.ensures) in
    let inside : c.in_ok-area.area < length s.areas = rw area.0 area.1 in
    let few = users_few s (sound_tells s fine) c.in_ok-area.area inside in
    (omega arith, omega (arith, place), omega arith, omega arith)

pub returns : goal.returns
unfolding open_of
returns c =
    let a = c.args in
    let s = a.state in
    let chosen = choice_passes a.choice c.code_of-code.ensures c.if-code-gt-LAST_CHOICE.false in
    let fine = state_passes s c.is_sound.ensures c.if-not-is_sound.false in
    let some : c.free_place.result ≡ Some c.in_ok-place.place = grind arith in
    let place = index_some is_free s.filters (sym some ∙ c.free_place.ensures) in
    let room : free_place_of s.filters < length s.filters = place.1 in
    let found : c.area_for.result ≡ Some c.in_ok-area.area = grind arith in
    let area = some_found a.pid.0 s.areas (sym found ∙ c.area_for.ensures) in
    let free : area_for a.pid.0 s.areas < length s.areas = area.1 in
    rw (c.with_filter.ensures, c.code_of-code.ensures, area.0, place.0)
    (search (yes, no, tests) depth 8)
