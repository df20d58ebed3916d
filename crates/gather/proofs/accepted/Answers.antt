-- `accepted` answers the rule: nothing for a packet without payload, a repeat dropped and marked, and else what the payload gives.
-- Assumes nothing.
use mathlib.Core.Bool.{Bool, false, true, cond, ◌&&◌, ◌||◌}
use mathlib.Core.List.{List}
use Prim.Native.Nat.{ℕ, ◌+◌, ◌-◌, ◌≤◌}
use lib.ListN.{take, drop}
use lib.Seq.{take-take}
use borrow.Rule.Slice.PartMut.{put_mid}
use Rattle.gather.proofs.OnMemory.{carried_area}
use mathlib.Core.Path.{◌≡◌, sym, ◌∙◌, ap}
use Rattle.ground.specs.Answer.{given}
use native.Mathlib.Omega.{arith}
use lib.Dec.{eqb}
use Rattle.gather.specs.Steps.{Carried}
use Rattle.gather.specs.Memory.{last_of, stretch, state_of, told_gathered, leaves, on_memory}
use Rattle.gather.specs.Rule.{Packet, Outcome, unfinished_of, yield, begun_by, is_same, repeats}
use Rattle.gather.specs.declared.Marks.{Marks}
use Rattle.gather.specs.declared.Gathered.{Gathered}
use Rattle.gather.proofs.RuleOnMemory.{repeats_is, jumps_is, unchanged_on_memory, dropped_on_memory, rule_empty, rule_repeat, taken_whole, lost_le, yield_two, yield_short}
use Rattle.gather.proofs.accepted.Goals as goal

-- the packet is a repeat or not, as the test says
repeated : (m : Marks) (counter : ℕ) (same b : Bool) → same ≡ is_same (last_of m) counter → (same && eqb m.repeated 0) ≡ b → repeats (last_of m) counter ≡ b
repeated m counter same b e t = sym (repeats_is m counter same e) ∙ t

-- the packet, as the rule has it
abbrev packet : ℕ → Bool → List ℕ → Packet
packet counter start payload = record { counter = counter; start = start; payload = payload }

pub returns-then-payload-eq0 : goal.returns-then-payload-eq0
returns-then-payload-eq0 c =
    let a = c.args in
    ap (λ (g : Gathered). leaves (given (told_gathered g)) a.store.now a.out.now) c.ungathered.ensures
    ∙ unchanged_on_memory a.marks a.store.now a.base a.out.now c.requires.marks_sound c.requires.room.area
    ∙ ap (λ (r : Outcome). on_memory r a.store.now a.base a.out.now)
    (sym (rule_empty (state_of a.marks a.store.now a.base) (packet a.counter a.start a.payload.now) c.if-payload-eq0.true))

pub returns-then-same-marks : goal.returns-then-same-marks
returns-then-same-marks c =
    let a = c.args in
    let is_repeat = repeated a.marks a.counter c.is_same-same.result true c.is_same-same.ensures c.if-same-marks.true in
    ap (λ (g : Gathered). leaves (given (told_gathered g)) a.store.now a.out.now) c.ungathered-then-same-marks.ensures
    ∙ dropped_on_memory a.marks a.store.now a.base a.out.now c.requires.marks_sound c.requires.room.area a.counter is_repeat
    ∙ ap (λ (r : Outcome). on_memory r a.store.now a.base a.out.now)
    (sym (rule_repeat (state_of a.marks a.store.now a.base) (packet a.counter a.start a.payload.now) c.if-payload-eq0.false is_repeat))

pub overflow_add-given_up : goal.overflow_add-given_up
overflow_add-given_up c =
    let a = c.args in
    let held = take c.kept.result (take (a.base + 4096 - a.base) (drop a.base a.store.now)) in
    let two = yield_two held a.start a.payload.now in
    let one = lost_le (c.is_same-same.result || c.skips-skip.result) c.held_of-held.result in
    omega (arith, ap (λ (r : Carried). r.sizes.given_up) c.gathered-sizes.ensures, c.lost-lost.ensures, two, one)

pub overflow_cast-next-2 : goal.overflow_cast-next-2
overflow_cast-next-2 c =
    let a = c.args in
    let held = take c.kept.result (take (a.base + 4096 - a.base) (drop a.base a.store.now)) in
    let short = yield_short held a.start a.payload.now c.requires.room.short in
    omega (arith, ap (λ (r : Carried). r.sizes.held) c.gathered-sizes.ensures, short)

pub returns : goal.returns
returns c =
    let a = c.args in
    let same = c.is_same-same in
    let skip = c.skips-skip in
    let is_new = repeated a.marks a.counter same.result false same.ensures c.if-same-marks.false in
    let jump = same.result || skip.result in
    let jump_is = jumps_is (last_of a.marks) a.counter same.result skip.result same.ensures skip.ensures is_new in
    let held_is = c.held_of-held.ensures in
    let n = a.base + 4096 - a.base in
    let z = c.gathered-sizes.result in
    let y = yield (stretch c.kept.result a.store.now a.base) a.start a.payload.now in
    let short = yield_short (stretch c.kept.result a.store.now a.base) a.start a.payload.now c.requires.room.short in
    let within : c.kept.result ≤ n = omega (arith, c.kept.ensures.1, c.requires.room.bound, held_is) in
    let carry = rw (take-take c.kept.result n (drop a.base a.store.now) within) at c.gathered-sizes.ensures in
    let store = put_mid a.base n a.store.now c.gathered-sizes.new.area in
    let out = c.gathered-sizes.new.out in
    ap (λ (g : Gathered). leaves (given (told_gathered g)) store out) c.taken.ensures
    ∙ taken_whole a.marks a.counter a.start a.payload.now a.store.now a.base a.out.now c.requires.room c.if-payload-eq0.false is_new
    jump c.kept.result c.lost-lost.result jump_is
    (c.kept.ensures.0 ∙ ap (λ (n : ℕ). cond jump 0 n) held_is) (c.lost-lost.ensures ∙ ap (λ (n : ℕ). cond jump (unfinished_of n) 0) held_is)
    z store out
    (carried_area a.store.now a.base n a.out.now (begun_by a.start a.payload.now) y (omega (arith, c.requires.room.area)) (omega (arith, short)) z c.gathered-sizes.new.area out carry)
