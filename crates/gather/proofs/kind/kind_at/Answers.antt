-- `kind_at` reads the three bytes and the size that the kind of the rest of the list goes by.
-- Assumes nothing.
use Prim.Native.Nat.{◌+◌}
use lib.ListN.{drop, get_or, length-drop}
use mathlib.Core.Path.{◌≡◌, sym, ◌∙◌}
use native.Mathlib.Nat.{add-zero}
use Rattle.gather.proofs.Classes.{kind_by}
use lib.Seq.{get_or-drop}
use Rattle.gather.proofs.kind.kind_at.Goals as goal

pub returns : goal.returns
returns c =
    let a = c.args in
    let s = a.s.now in
    let z : c.byte_at-3.result ≡ get_or s (a.at + 0) 0 = rw add-zero c.byte_at-3.ensures in
    c.kind_of.ensures
    ∙ kind_by (drop a.at s) c.byte_at-3.result c.byte_at.result c.byte_at-2.result
    c.length_of-length.result _
    (z ∙ sym (get_or-drop a.at s 0 0))
    (c.byte_at.ensures ∙ sym (get_or-drop a.at s 1 0))
    (c.byte_at-2.ensures ∙ sym (get_or-drop a.at s 2 0))
    c.length_of-length.ensures
    (sym (length-drop a.at s))
