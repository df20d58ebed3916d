-- The places are passed one by one: each bit is that of the test's answer, and those above are still 0.
-- Assumes nothing.
use mathlib.Core.Path.{◌∙◌, ap}
use mathlib.Core.Bool.{Bool, false, cond}
use Prim.Native.Nat.{◌≤◌}
use native.Mathlib.Omega.{arith}
use Rattle.state.proofs.Places.{bit_is, bit_small, bit_fits, all_fit, place_passed, all_passed}
use Rattle.state.proofs.passing.Goals as goal

pub overflow_add-set : goal.overflow_add-set
overflow_add-set g c =
    let l = c.loop-place in
    let small : c.from.result ≤ 1 = rw c.from.ensures (bit_small c.passes.result) in
    omega (arith, bit_fits l.place l.set c.from.result c.loop-place-test.true l.invariant.0 small, all_fit l.place c.loop-place-test.true)

pub loop-place-preserved : goal.loop-place-preserved
loop-place-preserved g c =
    let l = c.loop-place in
    let inside = c.loop-place-test.true in
    let small : c.from.result ≤ 1 = rw c.from.ensures (bit_small c.passes.result) in (
      bit_fits l.place l.set c.from.result inside l.invariant.0 small,
      λ m long says.
          place_passed (λ b. b) m long l.place l.set (l.invariant.1 m long says) false c.from.result inside
          (c.from.ensures ∙ bit_is c.passes.result ∙ ap (λ (b : Bool). cond b 1 0) (says l.place c.passes.result inside c.passes.ensures)),
    )

pub returns : goal.returns
returns g c = λ m long says. all_passed (λ b. b) m long c.loop-place.place c.loop-place.set (c.loop-place.invariant.1 m long says) c.loop-place-test.false
