-- `started` cuts the payload where the pointer says, or at its end.
-- Assumes nothing.
use mathlib.Core.Path.{◌≡◌, ◌∙◌, ap}
use Prim.Native.Nat.{ℕ, ◌+◌, ◌-◌, min}
use native.Mathlib.Omega.{arith}
use lib.ListN.{length, get_or, take, drop, length-take, length-drop}
use Rattle.std.proofs.lemmas.Slice.{between_to_end}
use Rattle.gather.specs.Rule.{started}
use Rattle.gather.proofs.OnMemory.{front_is, back_is}
use Rattle.gather.proofs.memory.started.Goals as goal

pub parted-requires-clause-after_pointer : goal.parted-requires-clause-after_pointer
parted-requires-clause-after_pointer c =
    let p = c.args.payload.now in
    let from = c.min-from.result in
    omega (arith, length-take (from - 1) (drop 1 p), length-take (length p - from) (drop from p), length-drop 1 p, length-drop from p, c.min-from.ensures, c.requires.room.short, c.requires.payload_nonzero)

pub parted-requires-clause-room : goal.parted-requires-clause-room
parted-requires-clause-room c =
    let room = c.requires.room in
    let size = length-take (c.min-from.result - 1) (drop 1 c.args.payload.now) in
    record { bound = room.bound; short = omega (arith, room.short, size, length-drop 1 c.args.payload.now); area = room.area; output = room.output }

pub returns : goal.returns
unfolding started
returns c =
    let a = c.args in
    let p = a.payload.now in
    let cut : c.min-from.result ≡ min (length p) (1 + get_or p 0 0) = c.min-from.ensures ∙ ap (λ (n : ℕ). min (length p) (1 + n)) c.from.ensures in
    let whole : take (length p - c.min-from.result) (drop c.min-from.result p) ≡ drop c.min-from.result p = between_to_end p c.min-from.result (length p) (omega arith) in
    let told = rw (whole, cut, front_is p c.requires.payload_nonzero, back_is p) at c.parted.ensures in
    told
