-- Document 01, "PES headers": the stamps, by the two bits PTS_DTS_flags.
use Rattle.std.specs.Prelude.{cond, List, [], ◌∷◌, ℕ, eqb}
use Rattle.ground.specs.Number.{number_at}
use Rattle.ground.specs.Refusal.{Row, ◌when◌}
use Rattle.clock.specs.Stamp.{stamp_of, is_unmarked}
use Rattle.pes.specs.declared.stamps.Stamps.{Stamps}
use Rattle.pes.specs.declared.stamps.Stamps.TheVariants as stamps

-- "The answer holds no stamp, a PTS, or a PTS with a DTS"
pub data Times : Type 0 where
  none : Times
  pts : ℕ → Times
  both : ℕ → ℕ → Times

-- what the stamps of the code say in document 01's terms
abbrev pub told_stamps : Stamps → Times
told_stamps stamps.Absent = none
told_stamps (stamps.Pts p) = pts p.0
told_stamps (stamps.Both p d) = both p.0 d.0

-- "stamps 0, 5 or 10 bytes"
abbrev pub stamps_size : ℕ → ℕ
stamps_size code = cond (eqb code 3) 10 (cond (eqb code 2) 5 0)

-- the row of a stamp at place i behind a prefix: "36: a stamp's four-bit prefix or one of its three marker bits is wrong"
abbrev pub stamp_refusal : List ℕ → ℕ → ℕ → Row
stamp_refusal s i prefix = 36 when is_unmarked (number_at s i 5) prefix

-- the stamp at place i
abbrev pub stamp_at : List ℕ → ℕ → ℕ
stamp_at s i = stamp_of (number_at s i 5)

-- "Prefixes: 0010 alone, 0011 and 0001 together": the rows of the stamps
abbrev pub stamp_refusals : List ℕ → ℕ → List Row
stamp_refusals s code = cond (eqb code 3) (stamp_refusal s 9 3 ∷ stamp_refusal s 14 1 ∷ []) (cond (eqb code 2) (stamp_refusal s 9 2 ∷ []) [])

-- the stamps that the flags announce
abbrev pub stamps_of : List ℕ → ℕ → Times
stamps_of s code = cond (eqb code 3) (both (stamp_at s 9) (stamp_at s 14)) (cond (eqb code 2) (pts (stamp_at s 9)) none)
