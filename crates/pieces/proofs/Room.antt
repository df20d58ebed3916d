-- The lines of n packets fit where there is room for n times those of one.
-- Assumes nothing.
use Rattle.std.proofs.Common.{ℕ, zero, suc, ◌*◌, ◌≤◌, List, length, take, drop, arith, length-append}
use Rattle.lines.specs.Lines.{most}
use Rattle.lines.proofs.Room as room
use Rattle.pieces.specs.Input.{Work, next_lines, after_call, printed}

pub lines_fit : (w : Work) (p : List ℕ) → length (next_lines w p) ≤ most
lines_fit w p = room.lines_fit w.state p w.store w.out w.sets w.index

pub printed_fit : (n : ℕ) (w : Work) (bytes : List ℕ) → length (printed n w bytes) ≤ n * most
printed_fit zero w bytes = omega arith
printed_fit (suc n) w bytes =
    let w' = after_call w (take 188 bytes) in
    let a = lines_fit w (take 188 bytes) in
    let b = printed_fit n w' (drop 188 bytes) in
    rw (length-append (next_lines w (take 188 bytes)) (printed n w' (drop 188 bytes))) (omega arith)
