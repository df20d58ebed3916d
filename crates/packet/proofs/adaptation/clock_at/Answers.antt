-- The clock reference is the lone field in the part from its place on, and a refusal of that is this one's.
-- Assumes nothing.
use Rattle.std.proofs.Common.{◌≡◌, ℕ, ◌+◌, ◌≤◌, List, length, drop, Bool, true, ap, sym, ◌∙◌, Some, rules}
use Rattle.clock.specs.Reference.{read_reference}
use Rattle.ground.proofs.Judged.{mapped}
use Rattle.ground.proofs.Told.{passed_on}
use Rattle.packet.specs.Adaptation.{told_clock}
use Rattle.packet.specs.Steps.{read_clock}
use Rattle.packet.proofs.Clock.{clock_there}
use Rattle.packet.proofs.adaptation.clock_at.Goals as goal

-- the lone field is read
lone : (s part : List ℕ) (i : ℕ) (flagged : Bool) → flagged ≡ true → part ≡ drop i s → i + 6 ≤ length s → mapped Some (read_reference part) ≡ read_clock s i flagged
lone s part i flagged f e h = rw (f, e) (sym (clock_there s i h))

pub returns-in_err-read : goal.returns-in_err-read
returns-in_err-read c =
    passed_on told_clock _ _ c.from_residual.ensures.1 ∙ ap (mapped Some) c.in_err-read.ensures
    ∙ lone c.args.bytes.now _ c.args.place c.args.flagged c.if-not-flagged.false c.bytes_from.ensures (search rules)

pub returns : goal.returns
returns c = ap (mapped Some) c.in_ok-read.ensures ∙ lone c.args.bytes.now _ c.args.place c.args.flagged c.if-not-flagged.false c.bytes_from.ensures (search rules)
