-- `continued` measures, copies a finished section and adds to the held bytes.
-- Assumes nothing.
use lib.ListN.{take, length-take}
use lib.Seq.{length-take-le}
use Prim.Native.Nat.{ℕ}
use native.Mathlib.Omega.{arith}
use mathlib.Core.Path.{sym, ◌∙◌, ap, ap₂}
use Rattle.ground.specs.Write.{put}
use Rattle.gather.specs.Steps.{carried_as}
use Rattle.gather.proofs.OnMemory.{added_fits, held_size, continued_carried}
use Rattle.gather.proofs.memory.continued.Goals as goal

pub finish-requires : goal.finish-requires
finish-requires c =
    let a = c.args in
    let f = added_fits (take a.held a.area.now) a.payload.now c.added-sizes.result c.added-sizes.ensures in
    (f.within, omega (arith, f.most, c.requires.output))

pub slice_bounds-write-end : goal.slice_bounds-write-end
slice_bounds-write-end c =
    let a = c.args in
    let f = added_fits (take a.held a.area.now) a.payload.now c.added-sizes.result c.added-sizes.ensures in
    let size = held_size c.requires in
    sym (length-take-le c.saturating_sub.result a.payload.now (omega (arith, f.rest, size, c.saturating_sub.ensures)))

pub write-requires : goal.write-requires
write-requires c =
    let a = c.args in
    let f = added_fits (take a.held a.area.now) a.payload.now c.added-sizes.result c.added-sizes.ensures in
    let size = length-take c.saturating_sub.result a.payload.now in
    omega (arith, f.bound, size, c.requires, c.saturating_sub.ensures)

pub returns : goal.returns
returns c =
    let a = c.args in
    let z = c.added-sizes.result in
    ap₂ (carried_as z)
    (c.write.ensures ∙ ap (λ (k : ℕ). put a.area.now a.held (take k a.payload.now)) c.saturating_sub.ensures)
    c.finish.ensures
    ∙ continued_carried a.held a.payload.now a.area.now a.out.now c.requires z c.added-sizes.ensures
