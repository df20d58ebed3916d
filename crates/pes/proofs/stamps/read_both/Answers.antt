-- Each stamp is the lone field in the part from its place on, and the two are judged one after the other.
-- Assumes nothing.
use Rattle.std.proofs.Common.{◌≡◌, ℕ, ◌-◌, ◌≤◌, List, [], ◌∷◌, length, take, drop, refl, ◌∙◌, rules}
use mathlib.Core.Path.{ap₂}
use Rattle.ground.specs.Answer.{Answer, given}
use Rattle.clock.specs.Stamp.{read_stamp}
use Rattle.ground.proofs.Judged.{joined, judge_joined}
use Rattle.ground.proofs.Told.{passed_on}
use Rattle.pes.specs.Stamps.{told_stamps, both, stamp_refusal, stamp_at}
use Rattle.pes.specs.Steps.{read_stamps}
use Rattle.pes.proofs.Stamp.{stamp_part}
use Rattle.pes.proofs.stamps.read_both.Goals as goal

-- where both stamps are read, what they make of the answer
reads : (s : List ℕ) (p d : Answer ℕ) → 19 ≤ length s
    → p ≡ read_stamp (take (length s - 9) (drop 9 s)) 3 → d ≡ read_stamp (take (length s - 14) (drop 14 s)) 1
    → joined both p d ≡ read_stamps s 3
reads s p d long first second =
    ap₂ (joined both) (first ∙ stamp_part s 9 3 refl (search rules)) (second ∙ stamp_part s 14 1 refl (search rules))
    ∙ judge_joined both (stamp_refusal s 9 3 ∷ []) (stamp_refusal s 14 1 ∷ []) (stamp_at s 9) (stamp_at s 14)

pub returns-in_err-pts : goal.returns-in_err-pts
returns-in_err-pts c = passed_on told_stamps _ _ c.from_residual.ensures.1 ∙ reads c.args.bytes.now _ _ c.requires c.in_err-pts.ensures refl

pub returns-in_err-dts : goal.returns-in_err-dts
returns-in_err-dts c = passed_on told_stamps _ _ c.from_residual-in_err-dts.ensures.1 ∙ reads c.args.bytes.now (given c.in_ok-pts.pts.0) _ c.requires c.in_ok-pts.ensures c.in_err-dts.ensures

pub returns : goal.returns
returns c = reads c.args.bytes.now (given c.in_ok-pts.pts.0) (given c.in_ok-dts.dts.0) c.requires c.in_ok-pts.ensures c.in_ok-dts.ensures
