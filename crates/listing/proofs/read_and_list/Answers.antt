-- What the read left of the kept bytes is what they were, and the rest is what listing promises.
-- Assumes nothing.
use mathlib.Core.Path.{◌≡◌, sym, subst, ◌∙◌, ap}
use mathlib.Core.List.{List}
use Prim.Native.Nat.{ℕ}
use lib.ListN.{length}
use Rattle.text.specs.Text.{told_text}
use Rattle.pieces.specs.Input.{Between}
use Rattle.pieces.specs.Piece.{Held, AfterPiece, told_held, told_read}
use Rattle.pieces.specs.Turns.{Fits, between_of, reading_of, turn_in}
use Rattle.pieces.proofs.Turns.{is_turn, still_fits}
use Rattle.listing.proofs.Turns.{takes_turn}
use borrow.Author.Rules.{rules}
use Rattle.listing.proofs.read_and_list.Goals as goal

pub returns-clause-still_fits : goal.returns-clause-still_fits
returns-clause-still_fits c =
    let a = c.args in
    let read = c.read_on-brought in
    let piece = read.new.piece in
    let long : length piece ≡ length a.piece.now.bytes.now = search rules in
    let given = c.requires.fits in
    let before : Held = told_held a.piece.now a.work.now in
    let held : Held = record { work = before.work; loan = before.loan; piece = piece; kept = before.kept } in
    let fits : Fits piece (told_text a.text.now).bytes = record { packet = rw long given.packet; room = rw long given.room } in
    subst (λ (x : AfterPiece). Fits x.held.piece x.text.bytes) (sym c.list_read-is_on.ensures) (still_fits held (told_text a.text.now) fits read.result)

pub returns-clause-takes_turn : goal.returns-clause-takes_turn
returns-clause-takes_turn c =
    let a = c.args in
    let read = c.read_on-brought in
    let list = c.list_read-is_on in
    let before : Held = told_held a.piece.now a.work.now in
    let piece = read.new.piece in
    let held : Held = record { work = before.work; loan = before.loan; piece = piece; kept = before.kept } in
    let long : length piece ≡ length before.piece = search rules in
    let given = c.requires.fits in
    let fits : Fits piece (told_text a.text.now).bytes = record { packet = rw long given.packet; room = rw long given.room } in
    let turned = is_turn held (told_text a.text.now) fits c.requires.rest_short read.result read.ensures.ends in
    let same : between_of held ≡ between_of before = ap {B = Between} (λ (l : List ℕ). record { work = before.work; kept = l }) read.ensures.kept in
    let t = turn_in (told_read list.new.self list.new.work list.new.text list.result) in
    takes_turn _ _ t (reading_of read.result before.kept piece) c.write-is_written.result same (ap turn_in list.ensures ∙ turned.turn)
