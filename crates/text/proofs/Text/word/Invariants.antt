-- `word` writes one byte a turn.
-- Assumes nothing.
use lib.ListN.{drop}
use Rattle.text.specs.Text.{told_text, with_bytes}
use mathlib.Core.Path.{◌≡◌}
use Rattle.text.proofs.Text.word.Given as goal

abbrev pub invariant-loop-b : goal.invariant-loop-b
invariant-loop-b l = with_bytes (told_text l.self) (drop l.b-index l.letters) ≡ with_bytes (told_text l.initial.self) l.letters
