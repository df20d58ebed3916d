-- `write` copies the bytes over a part of the list that has as many; no bytes change nothing.
-- Assumes nothing.
use mathlib.Core.Path.{◌≡◌, sym, ◌∙◌}
use Prim.Native.Nat.{◌+◌, ◌-◌}
use lib.ListN.{length}
use native.Mathlib.Omega.{arith}
use borrow.Author.Tests.{eqb-true}
use Rattle.std.proofs.lemmas.List.{nil_from_length}
use Rattle.ground.proofs.Write.{put_nil}
use Rattle.gather.proofs.OnMemory.{put_part}
use Rattle.gather.proofs.memory.write.Goals as goal

pub returns-then-not-is_empty : goal.returns-then-not-is_empty
returns-then-not-is_empty c =
    let a = c.args in
    put_part a.dst.now a.at (a.at + length a.src.now - a.at) a.src.now c.copy_from_slice.new.self c.copy_from_slice.ensures.after (omega arith)

pub returns-else-not-is_empty : goal.returns-else-not-is_empty
returns-else-not-is_empty c =
    let a = c.args in
    let none : length a.src.now ≡ 0 = eqb-true (length a.src.now) 0 (sym c.is_empty.ensures ∙ c.if-not-is_empty.false) in
    rw (nil_from_length a.src.now none) (sym (put_nil a.dst.now a.at))
