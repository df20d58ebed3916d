-- `joined_kind` reads the three bytes and the size that the kind of the joined bytes goes by.
-- Assumes nothing.
use Rattle.gather.proofs.Classes.{kind_by}
use lib.ListN.{length, length-append}
use Prim.Native.Nat.{◌+◌}
use mathlib.Core.List.{◌++◌}
use mathlib.Core.Path.{sym, ◌∙◌}
use Rattle.gather.proofs.measure.joined_kind.Goals as goal

pub returns : goal.returns
returns c =
    let held = c.args.held.now in
    let new = c.args.new.now in
    c.kind_of.ensures
    ∙ kind_by (held ++ new) c.joined_byte-first.result c.joined_byte-second.result c.joined_byte-third.result
    c.length_of.result (length held + length new)
    c.joined_byte-first.ensures c.joined_byte-second.ensures c.joined_byte-third.ensures
    c.length_of.ensures (sym (length-append held new))
