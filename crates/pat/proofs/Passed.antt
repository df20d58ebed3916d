-- What a section is that a PAT's table lets pass: its size is 3 + section_length, which is within its bounds.
-- Assumes nothing.
use mathlib.Core.List.{List}
use Prim.Native.Nat.{ℕ}
use Rattle.ground.specs.Refusal.{Silent}
use Rattle.ground.proofs.Refused.{silent_both}
use Rattle.psi.specs.Refusals.{shared}
use Rattle.psi.proofs.Passed.{Passed, passed}
use Rattle.pat.specs.Pat.{pat_own, pat_refusals}

pub pat_passed : (s : List ℕ) → Silent (pat_refusals s) → Passed 9 s
pat_passed s q = passed 0 9 s (silent_both (shared 0 9 s) (pat_own s) q).0
