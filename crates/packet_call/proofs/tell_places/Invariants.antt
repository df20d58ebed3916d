-- Each turn writes the next section's set: after i turns the first i stand written.
-- Assumes nothing.
use Prim.Native.Nat.{◌-◌}
use Rattle.state.specs.Choice.{placed}
use Rattle.packet_call.proofs.Sets.{Told}
use Rattle.packet_call.proofs.tell_places.Given as goal

abbrev pub invariant-loop-i : goal.invariant-loop-i
invariant-loop-i l = Told l.area (placed l.filters l.choices) l.count l.out l.initial.sets l.i l.place l.sets

abbrev pub decreases-loop-i : goal.decreases-loop-i
decreases-loop-i l = l.count - l.i
