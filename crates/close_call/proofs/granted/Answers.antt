-- Each return is the first row of the table that applies; in a sound state an open filter stands on a used area.
-- Assumes nothing.
use mathlib.Core.Path.{◌≡◌, sym, ◌∙◌, ap}
use mathlib.Core.Bool.{true, false, not}
use Prim.Native.Nat.{◌<◌, ◌≤◌}
use native.Mathlib.Omega.{arith}
use lib.ListN.{length, get_or}
use borrow.Author.Rules.{rules}
use Rattle.std.specs.Prelude.{Some, None}
use Rattle.std.proofs.lemmas.Result.{err_from_is_err_and}
use Rattle.ground.specs.declared.Refusal.TheVariants as refusal
use Rattle.ground.proofs.Refused.{tests, yes, no}
use Rattle.ground.proofs.Walk.{mapped_length}
use Rattle.state.specs.State.{place_of, is_open, has_number, free_area, free_filter}
use Rattle.state.proofs.Found.{index_some, index_none, found_place}
use Rattle.sound.specs.Sound.{sound}
use Rattle.sound.proofs.Clauses.{sound_tells, open_stands, used_inside, used_some}
use Rattle.close_call.specs.Close.{close_of, area_at}
use Rattle.close_call.proofs.granted.Goals as goal

pub returns-then-not-is_sound : goal.returns-then-not-is_sound
unfolding close_of
returns-then-not-is_sound c =
    let unsound : not (sound c.args.state) ≡ true = ap not (sym c.is_sound.ensures ∙ c.if-not-is_sound.true) in
    search (yes, tests)

pub returns-in_err-place : goal.returns-in_err-place
unfolding close_of
returns-in_err-place c =
    let a = c.args in
    let s = a.state in
    let fine : not (sound s) ≡ false = ap not (sym c.is_sound.ensures ∙ c.if-not-is_sound.false) in
    let found : c.place_of.result ≡ None = grind arith in
    let none : length s.filters ≤ place_of a.number s.filters = index_none (has_number a.number) s.filters (sym found ∙ c.place_of.ensures) in
    let why : c.in_err-place.field-0.0 ≡ refusal.NotOpen = grind arith in
    let p = err_from_is_err_and c.from_residual.result c.from_residual.ensures.1 in
    rw (p.1, p.2, why) (search (yes, no, tests))

pub without_filter-requires : goal.without_filter-requires
without_filter-requires c =
    let a = c.args in
    let s = a.state in
    let p = c.in_ok-place.place in
    let areas : length s.areas ≡ 8 = search (rules, mapped_length) in
    let places : length s.filters ≡ 32 = search (rules, mapped_length) in
    let fine : sound s ≡ true = sym c.is_sound.ensures ∙ c.if-not-is_sound.false in
    let found : c.place_of.result ≡ Some p = grind arith in
    let place = index_some (has_number a.number) s.filters (sym found ∙ c.place_of.ensures) in
    let here : p < length s.filters = rw place.0 place.1 in
    let opened : is_open (get_or s.filters p free_filter) ≡ true = rw place.0 (found_place a.number s.filters place.1).0 in
    let used = open_stands s (sound_tells s fine) p here opened in
    let inside = used_inside s.areas (area_at s p) used in
    (omega arith, omega arith, used_some (get_or s.areas (area_at s p) free_area) used)

pub returns : goal.returns
unfolding close_of
returns c =
    let a = c.args in
    let s = a.state in
    let fine : not (sound s) ≡ false = ap not (sym c.is_sound.ensures ∙ c.if-not-is_sound.false) in
    let found : c.place_of.result ≡ Some c.in_ok-place.place = grind arith in
    let place = index_some (has_number a.number) s.filters (sym found ∙ c.place_of.ensures) in
    let here : place_of a.number s.filters < length s.filters = place.1 in
    rw (c.without_filter.ensures, place.0) (search (yes, no, tests))
