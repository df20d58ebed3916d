-- Each turn writes the next section's set: after i turns the first i stand written.
-- Assumes nothing.
use native.Mathlib.Omega.{arith}
use Rattle.state.specs.Choice.{placed}
use Rattle.packet_call.proofs.Sets.{told_none, told_one, told_all}
use Rattle.packet_call.proofs.tell_places.Goals as goal

pub loop-i-init : goal.loop-i-init
loop-i-init c =
    let a = c.args in
    told_none a.area (placed a.filters a.choices) a.count a.out.now a.sets.now

pub loop-i-preserved : goal.loop-i-preserved
loop-i-preserved c =
    let a = c.args in
    let l = c.loop-i in
    told_one a.area (placed a.filters a.choices) a.count a.out.now a.sets.now c.requires l.i l.place l.sets c.places_for.result c.further-place.result l.invariant
    c.loop-i-test.true (rw c.table_at.ensures at c.places_for.ensures) (rw c.size_at.ensures at c.further-place.ensures)

pub returns : goal.returns
returns c =
    let a = c.args in
    let l = c.loop-i in
    told_all a.area (placed a.filters a.choices) a.count a.out.now a.sets.now l.i l.place l.sets l.invariant (omega arith)
