-- What the refusals leave of a PMT: at most 201 entries, and a body that is its entries and descriptors, laid side by side.
-- Assumes nothing.
use mathlib.Core.Path.{◌≡◌, sym, ◌∙◌, ap₂}
use mathlib.Core.List.{List, ◌++◌}
use Prim.Native.Nat.{ℕ, ◌+◌, ◌*◌, ◌≤◌}
use native.Mathlib.Omega.{arith}
use lib.ListN.{length, drop, length-drop, take-append-drop}
use lib.Seq.{slice, drop-drop}
use Rattle.ground.proofs.Test.{both_true}
use Rattle.ground.proofs.Part.{slice_take}
use Rattle.psi.specs.Section.{before}
use Rattle.psi.specs.Loop.{Loop}
use Rattle.loops.specs.Loop.{Entry, entries_of}
use Rattle.loops.specs.Body.{body_of, info_length, program_of, streams_of}
use Rattle.psi.specs.Loop.{joined}
use Rattle.loops.specs.Claims.{laid_out}
use Rattle.pmt.specs.Claims.{entry_laid_out}
use Rattle.loops.proofs.Passed.{PmtPassed}
use Rattle.pmt.proofs.Placed.{body}
use Rattle.pmt.proofs.Placement.{over_entries, descriptors_bytes, entries_bytes}

-- an entry is at least five bytes
five_each : (at : ℕ) (s : List ℕ) → 5 * length (entries_of at s).items ≤ length s
five_each =
    over_entries (λ (at : ℕ) (s : List ℕ) (l : Loop Entry). 5 * length l.items ≤ length s)
    (λ at. omega arith) (λ at s. omega arith)
    (λ at s l h own rest. let left = rw length-drop at rest in omega arith)

module _ (s : List ℕ) (p : PmtPassed s) where
  pub pmt_limit : length (streams_of s).items ≤ 201
  unfolding streams_of
  pmt_limit =
      let w = p.fixed.shared.whole in
      let m = p.fixed.shared.enough in
      let l = p.fixed.shared.short in
      let five = rw length-drop at (five_each (12 + info_length s) (drop (12 + info_length s) (body_of s))) in
      omega (arith, body s p)

  pub pmt_bytes : joined laid_out (program_of s).items ++ joined entry_laid_out (streams_of s).items ≡ before 12 s
  unfolding program_of streams_of
  pmt_bytes =
      let b = body_of s in
      let k = info_length s in
      let fill = both_true (program_of s).fills (streams_of s).fills p.filled in
      ap₂ (λ (x y : List ℕ). x ++ y)
      (descriptors_bytes 12 (slice 12 (12 + k) b) fill.0 ∙ slice_take 12 k b)
      (entries_bytes (12 + k) (drop (12 + k) b) fill.1 ∙ sym (drop-drop k 12 b))
      ∙ take-append-drop k (drop 12 b)
