-- What a section is that a PMT's table lets pass: its size is 3 + section_length, which is within its bounds, its lengths fit and its loops are filled.
-- Assumes nothing.
use mathlib.Core.Path.{◌≡◌}
use mathlib.Core.Bool.{true, ◌&&◌}
use mathlib.Core.List.{List, ◌++◌}
use Prim.Native.Nat.{ℕ, ◌-◌, ◌≤◌}
use borrow.Author.Tests.{ltb-false, eqb-true, not-false}
use lib.Dec.{eqb}
use lib.ListN.{length}
use Rattle.ground.specs.Refusal.{Silent}
use Rattle.ground.proofs.Refused.{silent_both}
use Rattle.psi.specs.Section.{byte_at}
use Rattle.psi.specs.Refusals.{shared}
use Rattle.psi.proofs.Passed.{Passed, passed}
use Rattle.loops.specs.Body.{info_length, program_of, streams_of, pmt_own, pmt_loops, pmt_refusals}

-- ---- before its loops, and with them
pub record PmtFixed (s : List ℕ) : Type 0 where
  pub shared : Passed 13 s
  pub number : byte_at s 6 ≡ 0
  pub fits : info_length s ≤ length s - 16

pub pmt_fixed : (s : List ℕ) → Silent (shared 2 13 s ++ pmt_own s) → PmtFixed s
pmt_fixed s q =
    let both = silent_both (shared 2 13 s) (pmt_own s) q in
    record {
      shared = passed 2 13 s both.0;
      number = eqb-true (byte_at s 6) 0 (not-false (eqb (byte_at s 6) 0) both.1.0);
      fits = ltb-false (length s - 16) (info_length s) both.1.1.1.1.0;
    }

pub record PmtPassed (s : List ℕ) : Type 0 where
  pub fixed : PmtFixed s
  pub filled : ((program_of s).fills && (streams_of s).fills) ≡ true

pub pmt_passed : (s : List ℕ) → Silent (pmt_refusals s) → PmtPassed s
pmt_passed s q = record {
  fixed = pmt_fixed s (silent_both (shared 2 13 s ++ pmt_own s) (pmt_loops s) q).0;
  filled = not-false ((program_of s).fills && (streams_of s).fills) (silent_both (shared 2 13 s ++ pmt_own s) (pmt_loops s) q).1.0;
}
