-- The packets of the first bytes are the piece's first packets, and what is left of them stands at the start.
-- Assumes nothing.
use Rattle.std.proofs.Common.{◌≡◌, ℕ, ◌-◌, ◌%◌, ◌≤◌, true, List, length, take, drop, ◌++◌, sym, ap, ap₂, ◌∙◌, arith, ◌+◌}
use Rattle.ground.specs.Write.{put}
use Rattle.ground.proofs.Part.{length_part}
use Rattle.std.specs.List.{copy_within}
use Rattle.text.specs.Text.{Text, told_text, with_bytes}
use Rattle.pieces.specs.Piece.{told_work, told_held}
use Rattle.pieces.proofs.Cuts.{first_work, first_lines}
use Rattle.pieces.proofs.Told.{same_outcome}
use Rattle.pieces.proofs.reads.Piece.list_more.Goals as goal

moved : (piece : List ℕ) (from end rest : ℕ) → end - from ≡ rest → from + rest ≤ length piece → copy_within piece from end 0 ≡ put piece 0 (take rest (drop from piece))
unfolding put
moved piece from end rest e h =
    ap (λ (n : ℕ). take n (drop from piece) ++ drop (0 + n) piece) e
    ∙ ap (λ (n : ℕ). take rest (drop from piece) ++ drop (0 + n) piece) (sym (length_part rest piece from h))

pub returns : goal.returns
returns c =
    let a = c.args in
    let w = told_work a.work.now in
    let p = a.self.now.bytes.now in
    let t = told_text a.text.now in
    let listed = c.list_packets.ensures in
    let first = c.first.ensures in
    same_outcome (told_held a.self.now a.work.now) (a.end % 188) true
    (listed.work ∙ first_work w p c.first.result.now a.end c.requires first)
    (listed.text ∙ ap₂ (λ (s : Text) (lines : List ℕ). with_bytes s lines) c.clear.ensures (first_lines w p c.first.result.now a.end c.requires first))
    (c.copy_within.ensures.after ∙ moved p (a.end - a.end % 188) a.end (a.end % 188) (omega arith) (omega arith))
