-- The pass finds the places in range, the numbers apart and the users counted, or a place that makes one of the first two false.
-- Assumes nothing.
use mathlib.Core.Path.{◌≡◌, sym, ◌∙◌, ap}
use mathlib.Core.Bool.{true, false≢true}
use Prim.Native.Nat.{◌<◌}
use native.Mathlib.Omega.{arith}
use lib.ListN.{length, drop, get_or}
use borrow.Author.Rules.{rules}
use Rattle.ground.specs.Walk.{all}
use Rattle.ground.proofs.Test.{and_false}
use Rattle.state.specs.State.{free_filter}
use Rattle.sound.specs.Steps.{fits_place, is_zero_place}
use Rattle.sound.proofs.Pass.{all_from, passed_none, passed_unmet, passed_compared, passed_met, passed_sound, passed_counts, counts_small, open_inside}
use Rattle.sound.proofs.places_are_sound.Goals as goal
use Rattle.sound.proofs.places_are_sound.Goals.{else-tally-via-then-tally+else-not-is_new, else-tally-via-else-tally}

pub loop-i-init : goal.loop-i-init
loop-i-init c =
    let a = c.args in
    let long : length a.filters ≡ 32 = search rules in
    rw c.requires (passed_none a.next a.filters long)

pub tally-requires : goal.tally-requires
tally-requires c =
    let a = c.args in
    let at = c.loop-i in
    let fits = sym c.fits_place.ensures ∙ c.if-not-fits_place.false in
    let long : length a.filters ≡ 32 = search rules in (
      open_inside a.next (get_or a.filters at.i free_filter) fits,
      counts_small a.next a.filters at.counts at.met at.numbers at.i long at.invariant,
    )

pub returns-then-not-is_new : goal.returns-then-not-is_new
returns-then-not-is_new c =
    let a = c.args in
    let at = c.loop-i in
    let long : length a.filters ≡ 32 = search rules in
    let inside : at.i < 32 = omega (arith, c.end_of_places-end.ensures.0) in
    let met =
    passed_met a.next a.filters at.counts at.met at.numbers at.i long at.invariant inside (sym c.tally.ensures.0 ∙ c.if-tally.true)
    (sym c.is_new.ensures ∙ c.if-not-is_new.true) in
    (sym (rw (met, and_false (all (fits_place a.next) a.filters))), λ e. absurd (false≢true e))

pub loop-i-preserved : goal.loop-i-preserved
loop-i-preserved c =
    let a = c.args in
    let at = c.loop-i in
    let fits = sym c.fits_place.ensures ∙ c.if-not-fits_place.false in
    let tallied = c.tally.ensures in
    let long : length a.filters ≡ 32 = search rules in
    let inside : at.i < 32 = omega (arith, c.end_of_places-end.ensures.0) in
    rw (tallied.1, tallied.2)
    (elim c.else-tally.branch [
      | else-tally-via-then-tally+else-not-is_new w ↦ passed_compared a.next a.filters at.counts at.met at.numbers at.i long at.invariant inside fits (sym w.is_new.ensures ∙ w.if-not-is_new.false)
      | else-tally-via-else-tally w ↦ passed_unmet a.next a.filters at.counts at.met at.numbers at.i long at.invariant inside fits (sym tallied.0 ∙ w.if-tally.false)
    ])

pub returns : goal.returns
returns c =
    let a = c.args in
    let at = c.loop-i in
    let ended = c.end_of_places-end in
    let long : length a.filters ≡ 32 = search rules in
    let done : at.i ≡ ended.result = omega (arith, c.loop-i-test.false, at.auto.i-end) in
    let zeros : all is_zero_place (drop at.i a.filters) ≡ true = all_from is_zero_place a.filters free_filter at.i (λ k h b. ap is_zero_place (ended.ensures.1 k (omega arith) (omega arith))) in (
      c.choices_fit.ensures ∙ sym (passed_sound a.next a.filters at.counts at.met at.numbers at.i long at.invariant zeros a.choices),
      λ e. passed_counts a.next a.filters at.counts at.met at.numbers at.i long at.invariant zeros,
    )
