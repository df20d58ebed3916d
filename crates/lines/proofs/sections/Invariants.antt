-- One section a turn: what is written and what is left of the output make up all the lines.
-- Assumes nothing.
use mathlib.Core.Path.{◌≡◌}
use Prim.Native.Nat.{◌-◌}
use lib.ListN.{drop}
use Rattle.text.specs.Text.{told_text, with_bytes}
use Rattle.lines.specs.Lines.{section_lines}
use Rattle.lines.proofs.sections.Given as goal

abbrev pub invariant-loop : goal.invariant-loop
invariant-loop l =
    with_bytes (told_text l.text) (section_lines l.subject.index l.subject.pid (l.count - l.counter) (drop l.place l.out))
    ≡ with_bytes (told_text l.initial.text) (section_lines l.subject.index l.subject.pid l.count l.out)
