-- The pass finds each record sound by itself, the users as counted and the PIDs apart, or an area that makes one of the three clauses false.
-- Assumes nothing.
use mathlib.Core.Path.{◌≡◌, refl, sym, ◌∙◌, ap}
use mathlib.Core.Bool.{Bool, true, false, not, ◌||◌, false≢true}
use Prim.Native.Nat.{◌<◌}
use native.Mathlib.Omega.{arith}
use borrow.Author.Rules.{rules}
use borrow.Author.Tests.{eq-eqb, ne_eqb}
use lib.ListN.{length, drop}
use Rattle.ground.specs.Walk.{all}
use Rattle.sound.specs.Steps.{is_free_area, is_none}
use Rattle.state.specs.State.{free_area}
use Rattle.sound.proofs.Pass.{all_from}
use Rattle.sound.proofs.Areas.{passed_free, passed_new, passed_met, passed_all}
use Rattle.sound.proofs.areas_are_sound.Goals as goal
use Rattle.sound.proofs.areas_are_sound.Goals.{then-area-ne0+else-not-is_new, else-area-ne0}

-- neither test of a turn failed
right_and_fine : (right fine : Bool) → (not right || not fine) ≡ false → (right ≡ true) × (fine ≡ true)
right_and_fine true true e = (refl, refl)
right_and_fine true false e = absurd (false≢true (sym e))
right_and_fine false fine e = absurd (false≢true (sym e))

pub returns-then-not-is_new : goal.returns-then-not-is_new
returns-then-not-is_new c =
    let a = c.args in
    let at = c.loop-i in
    let long : length a.areas ≡ 8 = search rules in
    let eight : length a.counts ≡ 8 = search rules in
    let inside : at.i < 8 = omega (arith, c.end_of_areas-end.ensures.0) in
    let both = right_and_fine _ _ c.if-area-counts.false in
    let right = both.0 in
    let fine = sym c.area_is_sound.ensures ∙ both.1 in
    let used = ap not (ne_eqb _ _ c.if-area-ne0.true) in
    sym (passed_met a.counts a.areas at.pids at.i eight long at.invariant inside right fine used (sym c.is_new.ensures ∙ c.if-not-is_new.true))

pub loop-i-preserved : goal.loop-i-preserved
loop-i-preserved c =
    let a = c.args in
    let at = c.loop-i in
    let long : length a.areas ≡ 8 = search rules in
    let eight : length a.counts ≡ 8 = search rules in
    let inside : at.i < 8 = omega (arith, c.end_of_areas-end.ensures.0) in
    let both = right_and_fine _ _ c.if-area-counts.false in
    let right = both.0 in
    let fine = sym c.area_is_sound.ensures ∙ both.1 in
    elim c.if-area-ne0.branch [
      | then-area-ne0+else-not-is_new w ↦ rw w.pids-is
          (passed_new a.counts a.areas at.pids at.i eight long at.invariant inside right fine (ap not (ne_eqb _ _ w.if-area-ne0.true)) (sym w.is_new.ensures ∙ w.if-not-is_new.false))
      | else-area-ne0 w ↦ rw w.pids-is (passed_free a.counts a.areas at.pids at.i eight long at.invariant inside right fine (ap not (eq-eqb _ _ w.if-area-ne0.false)))
    ]

pub returns : goal.returns
returns c =
    let a = c.args in
    let at = c.loop-i in
    let long : length a.areas ≡ 8 = search rules in
    let eight : length a.counts ≡ 8 = search rules in
    let done : at.i ≡ c.end_of_areas-end.result = omega (arith, c.loop-i-test.false, at.auto.i-end) in
    let behind = c.end_of_areas-end.ensures.1 in
    let free : all is_free_area (drop at.i a.areas) ≡ true = all_from is_free_area a.areas free_area at.i (λ k h b. (behind k (omega arith) (omega arith)).0) in
    let none : all is_none (drop at.i a.counts) ≡ true = all_from is_none a.counts 0 at.i (λ k h b. eq-eqb _ 0 (behind k (omega arith) (omega arith)).1) in
    sym (passed_all a.counts a.areas at.pids at.i eight long at.invariant free none)
