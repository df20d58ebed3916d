-- `parted` measures both parts, then copies: the finished held section, the sections after it, and what is held.
-- Assumes nothing.
use mathlib.Core.Path.{◌≡◌, ◌∙◌, ap, ap₂}
use mathlib.Core.List.{List}
use Prim.Native.Nat.{ℕ, ◌+◌, ◌-◌}
use native.Mathlib.Omega.{arith}
use lib.ListN.{take, drop, length-take}
use Rattle.ground.specs.Write.{put}
use Rattle.gather.specs.Rule.{unfinished_of}
use Rattle.gather.specs.Steps.{sizes_as, carried_as}
use Rattle.gather.proofs.OnMemory.{parted_fits, parted_carried}
use Rattle.gather.proofs.memory.parted.Goals as goal

pub finish-requires : goal.finish-requires
finish-requires c =
    let f = parted_fits c.requires.room c.requires.after_pointer c.added-first.ensures c.walk-rest.ensures in
    (f.first, omega (arith, f.room))

pub slice_bounds-write-end : goal.slice_bounds-write-end
slice_bounds-write-end c =
    let f = parted_fits c.requires.room c.requires.after_pointer c.added-first.ensures c.walk-rest.ensures in
    omega (arith, f.rest, length-take c.walk-rest.result.bytes c.args.back.now)

pub write-requires : goal.write-requires
write-requires c =
    let f = parted_fits c.requires.room c.requires.after_pointer c.added-first.ensures c.walk-rest.ensures in
    omega (arith, f.room, length-take c.walk-rest.result.bytes c.args.back.now, c.finish.auto)

pub overflow_add-rest : goal.overflow_add-rest
overflow_add-rest c = omega (arith, parted_fits c.requires.room c.requires.after_pointer c.added-first.ensures c.walk-rest.ensures)

pub slice_bounds-write-end-2 : goal.slice_bounds-write-end-2
slice_bounds-write-end-2 c =
    let f = parted_fits c.requires.room c.requires.after_pointer c.added-first.ensures c.walk-rest.ensures in
    let within = f.rest in
    omega (arith, within)

pub write-requires-2 : goal.write-requires-2
write-requires-2 c =
    let y = c.walk-rest.result in
    let f = parted_fits c.requires.room c.requires.after_pointer c.added-first.ensures c.walk-rest.ensures in
    omega (arith, f.held, c.requires.room, length-take (y.bytes + y.held - y.bytes) (drop y.bytes c.args.back.now))

pub overflow_add-result : goal.overflow_add-result
overflow_add-result c = omega (arith, parted_fits c.requires.room c.requires.after_pointer c.added-first.ensures c.walk-rest.ensures)

pub overflow_add-result-2 : goal.overflow_add-result-2
overflow_add-result-2 c = omega (arith, parted_fits c.requires.room c.requires.after_pointer c.added-first.ensures c.walk-rest.ensures)

pub overflow_add-result-3 : goal.overflow_add-result-3
overflow_add-result-3 c =
    omega (arith, c.unfinished.ensures, parted_fits c.requires.room c.requires.after_pointer c.added-first.ensures c.walk-rest.ensures)

pub overflow_add-result-4 : goal.overflow_add-result-4
overflow_add-result-4 c =
    omega (arith, c.unfinished.ensures, parted_fits c.requires.room c.requires.after_pointer c.added-first.ensures c.walk-rest.ensures)

pub returns : goal.returns
returns c =
    let a = c.args in
    let x = c.added-first.result in
    let y = c.walk-rest.result in
    let f = parted_fits c.requires.room c.requires.after_pointer c.added-first.ensures c.walk-rest.ensures in
    let gave : x.given_up + c.unfinished.result + y.given_up ≡ x.given_up + unfinished_of x.held + y.given_up = rw c.unfinished.ensures in
    let count : y.bytes + y.held - y.bytes ≡ y.held = omega arith in
    ap₂ (carried_as (sizes_as (x.sections + y.sections) (x.bytes + y.bytes) y.held (x.given_up + c.unfinished.result + y.given_up) y.begun))
    (c.write-2.ensures ∙ ap (λ (k : ℕ). put a.area.now 0 (take k (drop y.bytes a.back.now))) count)
    (c.write.ensures ∙ ap (λ (l : List ℕ). put l x.bytes (take y.bytes a.back.now)) c.finish.ensures)
    ∙ rw gave (parted_carried (take a.held a.area.now) a.front.now a.back.now a.area.now a.out.now x y c.added-first.ensures c.walk-rest.ensures f.room)
