-- What the refusals leave of a PAT: at most 253 entries, and a body that is its entries, laid side by side.
-- Assumes nothing.
use mathlib.Core.Path.{◌≡◌}
use mathlib.Core.List.{List}
use Prim.Native.Nat.{ℕ, ◌≤◌}
use native.Mathlib.Omega.{arith}
use borrow.Author.Tests.{not-false}
use lib.ListN.{length}
use Rattle.ground.specs.Refusal.{Silent}
use Rattle.ground.proofs.Refused.{silent_both}
use Rattle.psi.specs.Section.{before}
use Rattle.psi.specs.Refusals.{shared}
use Rattle.psi.specs.Loop.{joined}
use Rattle.pat.specs.Pat.{pat_of, pat_own, pat_refusals}
use Rattle.pat.proofs.Passed.{pat_passed}
use Rattle.pat.proofs.Programs.{pat_count, fours_bytes}

module _ (s : List ℕ) (q : Silent (pat_refusals s)) where
  pub pat_limit : length (pat_of s).items ≤ 253
  pat_limit =
      let p = pat_passed s q in
      let w = p.whole in
      let m = p.enough in
      let l = p.short in
      let size : 12 ≤ length s = omega arith in
      omega (arith, pat_count s size)

  pub pat_bytes : joined (λ four. four) (pat_of s).items ≡ before 8 s
  unfolding pat_of
  pat_bytes = fours_bytes (before 8 s) (not-false (pat_of s).fills (silent_both (shared 0 9 s) (pat_own s) q).1.1.0)
