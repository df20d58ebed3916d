-- `gather` is its table of refusals, and past it the rule on memory.
-- Assumes nothing.
use native.Mathlib.Omega.{arith}
use mathlib.Core.Bool.{Bool, true, false, not}
use mathlib.Core.Path.{◌≡◌, sym, ◌∙◌, ap}
use Rattle.ground.proofs.Refused.{tests, yes, no}
use Rattle.gather.specs.Memory.{sound_marks, gather_of}
use Rattle.gather.specs.declared.Marks.{Marks}
use Rattle.gather.proofs.gather.Goals as goal

-- the row of the marks, by the test's outcome
row : (marks : Marks) (result b : Bool) → result ≡ sound_marks marks → result ≡ b → not (sound_marks marks) ≡ not b
row marks result b e t = ap not (sym e ∙ t)

pub returns-then-not-sound : goal.returns-then-not-sound
unfolding gather_of
returns-then-not-sound c =
    let h = row c.args.marks c.sound.result false c.sound.ensures c.if-not-sound.true in
    search (tests, yes, arith) depth 20 fits 4000

pub returns-then-counter-gt15 : goal.returns-then-counter-gt15
unfolding gather_of
returns-then-counter-gt15 c =
    let h = row c.args.marks c.sound.result true c.sound.ensures c.if-not-sound.false in
    search (tests, no, arith) depth 20 fits 4000

pub returns-then-store-lt-AREA_BYTES : goal.returns-then-store-lt-AREA_BYTES
unfolding gather_of
returns-then-store-lt-AREA_BYTES c =
    let h = row c.args.marks c.sound.result true c.sound.ensures c.if-not-sound.false in
    search (tests, no, arith) depth 20 fits 4000

pub returns-then-store-base : goal.returns-then-store-base
unfolding gather_of
returns-then-store-base c =
    let h = row c.args.marks c.sound.result true c.sound.ensures c.if-not-sound.false in
    search (tests, no, arith) depth 20 fits 4000

pub returns-then-out-lt-LEAST_OUTPUT : goal.returns-then-out-lt-LEAST_OUTPUT
unfolding gather_of
returns-then-out-lt-LEAST_OUTPUT c =
    let h = row c.args.marks c.sound.result true c.sound.ensures c.if-not-sound.false in
    search (tests, no, arith) depth 20 fits 4000

pub returns-then-payload-gt-PAYLOAD_BYTES : goal.returns-then-payload-gt-PAYLOAD_BYTES
unfolding gather_of
returns-then-payload-gt-PAYLOAD_BYTES c =
    let h = row c.args.marks c.sound.result true c.sound.ensures c.if-not-sound.false in
    search (tests, no, arith) depth 20 fits 4000

pub returns : goal.returns
unfolding gather_of
returns c =
    let h = row c.args.marks c.sound.result true c.sound.ensures c.if-not-sound.false in
    let e = c.accepted.ensures in
    search (tests, no, arith) depth 20 fits 4000
