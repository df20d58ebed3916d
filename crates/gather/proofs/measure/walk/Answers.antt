-- `walk` goes from section to section: what was passed and what the rest gives are together what all gives, and each whole section takes bytes from the rest.
-- Assumes nothing.
use Rattle.gather.proofs.Sized.{ends_nothing, ends_part, ends_overlong, grows}
use Rattle.gather.proofs.Classes.{whole_fits}
use lib.ListN.{drop, length-drop}
use mathlib.Core.Path.{sym, ◌∙◌}
use native.Mathlib.Omega.{arith}
use Rattle.gather.proofs.measure.walk.Goals as goal

pub returns-in-Nothing : goal.returns-in-Nothing
returns-in-Nothing c =
    let l = c.loop-n in
    let s = c.args.s.now in
    sym (l.invariant.2 ∙ ends_nothing (drop l.bytes s) l.sections l.bytes (sym c.in-Nothing.ensures))

pub returns-in-Part : goal.returns-in-Part
returns-in-Part c =
    let l = c.loop-n in
    let s = c.args.s.now in
    sym (l.invariant.2 ∙ ends_part (drop l.bytes s) l.sections l.bytes (sym c.in-Part.ensures) ∙ rw (length-drop l.bytes s))

pub returns-in-Overlong : goal.returns-in-Overlong
returns-in-Overlong c =
    let l = c.loop-n in
    let s = c.args.s.now in
    sym (l.invariant.2 ∙ ends_overlong (drop l.bytes s) l.sections l.bytes (sym c.in-Overlong.ensures))

pub overflow_add-bytes : goal.overflow_add-bytes
overflow_add-bytes c =
    let rest = drop c.loop-n.bytes c.args.s.now in
    let size = length-drop c.loop-n.bytes c.args.s.now in
    let w = whole_fits rest c.in-Whole.n (sym c.in-Whole.ensures) in
    omega (arith, w.least, w.within, size)

pub loop-n-smaller : goal.loop-n-smaller
loop-n-smaller c =
    let rest = drop c.loop-n.bytes c.args.s.now in
    let size = length-drop c.loop-n.bytes c.args.s.now in
    let w = whole_fits rest c.in-Whole.n (sym c.in-Whole.ensures) in
    omega (arith, w.least, w.within, size)

pub loop-n-preserved : goal.loop-n-preserved
loop-n-preserved c =
    let l = c.loop-n in
    let s = c.args.s.now in
    let size = length-drop l.bytes s in
    let told = sym c.in-Whole.ensures in
    let w = whole_fits (drop l.bytes s) c.in-Whole.n told in (
      omega (arith, w.least, w.within, size, l.invariant.0),
      omega (arith, w.least, l.invariant.1),
      l.invariant.2 ∙ grows s l.bytes c.in-Whole.n l.sections l.bytes told,
    )
