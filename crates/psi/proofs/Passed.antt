-- What a section is that a table lets pass: its size is 3 + section_length, which is within its bounds.
-- Assumes nothing.
use mathlib.Core.Path.{◌≡◌}
use mathlib.Core.List.{List}
use Prim.Native.Nat.{ℕ, ◌+◌, ◌≤◌}
use borrow.Author.Tests.{ltb-false, eqb-true, not-false}
use lib.Dec.{eqb}
use lib.ListN.{length}
use Rattle.ground.specs.Refusal.{Silent}
use Rattle.section.specs.Section.{section_length}
use Rattle.psi.specs.Refusals.{shared}

-- ---- the rows that a PAT and a PMT share
pub record Passed (least : ℕ) (s : List ℕ) : Type 0 where
  pub whole : length s ≡ 3 + section_length s
  pub enough : least ≤ section_length s
  pub short : section_length s ≤ 1021

pub passed : (asked least : ℕ) (s : List ℕ) → Silent (shared asked least s) → Passed least s
passed asked least s q = record {
  whole = eqb-true (length s) (3 + section_length s) (not-false (eqb (length s) (3 + section_length s)) q.1.1.0);
  enough = ltb-false (section_length s) least q.1.1.1.1.1.1.1.0;
  short = ltb-false 1021 (section_length s) q.1.1.1.1.1.1.0;
}
