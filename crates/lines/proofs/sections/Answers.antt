-- One section a turn: what is written and what is left of the output make up all the lines.
-- Assumes nothing.
use mathlib.Core.Path.{◌∙◌, ◌≡◌}
use native.Mathlib.Omega.{arith}
use Prim.Native.Nat.{suc, ◌-◌, ◌+◌}
use Rattle.text.specs.Text.{told_text}
use Rattle.lines.proofs.SectionLines.{progress}
use Rattle.lines.proofs.sections.Goals as goal

pub loop-preserved : goal.loop-preserved
loop-preserved c =
    let a = c.args in
    let l = c.loop in
    let size = c.size_at-size in
    let table = c.table_at-table in
    let one_less : a.count - l.counter ≡ suc (a.count - (l.counter + 1)) = omega arith in
    progress (told_text l.text) (told_text c.section.new.text) a.subject.index a.subject.pid (a.count - l.counter) (a.count - (l.counter + 1)) l.place a.out.now
    table.result size.result c.further-place.result one_less table.ensures size.ensures c.further-place.ensures c.section.ensures
    ∙ l.invariant
