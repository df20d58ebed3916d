-- A return for each row; past the last the six stores are one write of the field's bytes.
-- Assumes nothing.
use Rattle.std.proofs.Common.{div-one, arith}
use Rattle.ground.specs.Number.{bytes_of}
use Rattle.ground.proofs.Write.{sets_put}
use Rattle.ground.proofs.Refused.{tests}
use Rattle.clock.proofs.reference.write.Goals as goal

pub returns : goal.returns
returns c =
    let s = c.args.bytes.now in
    let n = c.field_of-n.result in
    rw (← c.field_of-n.ensures, ← sets_put s 0 (bytes_of 6 n) (omega arith), div-one) (search (tests, arith))
