-- The splice is the lone field in the part from its place on, and a refusal of that is this one's.
-- Assumes nothing.
use Rattle.std.proofs.Common.{◌≡◌, ℕ, ◌+◌, ◌≤◌, ◌/◌, ◌%◌, List, length, drop, ap, sym, ◌∙◌, arith}
use borrow.Author.Tests.{eq-eqb}
use Rattle.clock.specs.Stamp.{read_any_stamp}
use Rattle.ground.proofs.Judged.{mapped}
use Rattle.ground.proofs.Told.{passed_on}
use Rattle.packet.specs.Extension.{told_splice, flagged_size, splice_place}
use Rattle.packet.specs.Steps.{read_splice}
use Rattle.packet.proofs.Splice.{spliced_by, splice_there}
use Rattle.packet.proofs.extension.Flagged.splice.Goals as goal

-- the lone field is read
lone : (s part : List ℕ) (i x place : ℕ) → x / 32 % 2 ≡ 1 → place ≡ splice_place i x → part ≡ drop place s → length s ≡ 188 → i + flagged_size x ≤ 188
    → mapped spliced_by (read_any_stamp part) ≡ read_splice s i x
lone s part i x place flag at e long inside = rw (e, at) (sym (splice_there s i x (eq-eqb (x / 32 % 2) 1 flag) (omega arith)))

pub returns-in_err-read : goal.returns-in_err-read
returns-in_err-read c =
    passed_on told_splice _ _ c.from_residual.ensures.1 ∙ ap (mapped spliced_by) c.in_err-read.ensures
    ∙ lone c.args.self.bytes.now _ c.args.self.start c.args.self.flags _ c.if-self-ne1.false c.splice_place.ensures c.bytes_from.ensures c.args.self.long c.args.self.inside

pub returns : goal.returns
returns c =
    ap (mapped spliced_by) c.in_ok-read.ensures
    ∙ lone c.args.self.bytes.now _ c.args.self.start c.args.self.flags _ c.if-self-ne1.false c.splice_place.ensures c.bytes_from.ensures c.args.self.long c.args.self.inside
