-- What lies in memory after a read is the turn that the read makes, where the lines have room.
-- Assumes nothing.
use Rattle.std.proofs.Common.{◌≡◌, ℕ, ◌+◌, ◌-◌, ◌%◌, cond, drop, ◌/◌, ◌<◌, ◌≤◌, min, Bool, true, false, ltb, List, length, take, refl, ap, ◌∙◌, arith, length-take-le}
use Rattle.text.specs.Text.{Text, emptied, with_bytes}
use Rattle.ground.proofs.Part.{length_part}
use Rattle.ground.proofs.Write.{length-put}
use Rattle.text.proofs.Laws.{is_written, same_size}
use Rattle.pieces.specs.Input.{after_call, printed, next_lines}
use Rattle.pieces.specs.Piece.{Held, outcome_of, more_of, ended_of, piece_of}
use Rattle.pieces.specs.Turns.{Fits, EndsIn, IsTurn}
use Rattle.pieces.specs.declared.reads.Brought.{Brought}
use Rattle.pieces.specs.declared.reads.Brought.TheVariants.{Bytes, End, Failure}
use Rattle.pieces.proofs.Told.{same_turn}
use Rattle.pieces.proofs.Room.{lines_fit, printed_fit}
use Rattle.pieces.proofs.Cuts.{piece_work, piece_lines, piece_kept}

-- ---- a read leaves both as long as they were
module _ (h : Held) (t : Text) (fits : Fits h.piece t.bytes) where
  fits_on : {piece text : List ℕ} → length piece ≡ length h.piece → length text ≡ length t.bytes → Fits piece text
  fits_on p e = record { packet = rw p fits.packet; room = rw (p, e) fits.room }

  more_fits : (end : ℕ) → end ≤ length h.piece → let a = more_of h end t in Fits a.held.piece a.text.bytes
  more_fits end inside =
      let moved = take (end % 188) (drop (end - end % 188) h.piece) in
      let size : length moved ≡ end % 188 = length_part (end % 188) h.piece (end - end % 188) (omega arith) in
      fits_on (length-put h.piece 0 moved (rw size (omega arith))) (same_size (emptied t) (printed (end / 188) h.work h.piece))

  ended_fits : let a = ended_of h t in Fits a.held.piece a.text.bytes
  ended_fits = go (ltb 0 h.kept)
    where
      lines : List ℕ
      lines = next_lines h.work (take h.kept h.piece)

      go : (b : Bool) → let a = cond b (outcome_of h (after_call h.work (take h.kept h.piece)) (with_bytes (emptied t) lines) h.piece 0 false) (outcome_of h h.work (emptied t) h.piece 0 false) in Fits a.held.piece a.text.bytes
      go true = fits_on refl (same_size (emptied t) lines)
      go false = fits

  pub still_fits : (brought : Brought) → let a = piece_of h brought t in Fits a.held.piece a.text.bytes
  still_fits (Bytes size) = more_fits (min (h.kept + size) (length h.piece)) (omega arith)
  still_fits End = ended_fits
  still_fits Failure = fits

-- ---- and where less than a packet was kept, it is the turn
module _ (h : Held) (t : Text) (fits : Fits h.piece t.bytes) (short : h.kept < 188) where
  more_turn : (size : ℕ) → h.kept + size ≤ length h.piece → IsTurn h (Bytes size) (more_of h (h.kept + size) t)
  more_turn size inside =
      let end = h.kept + size in
      let lines = printed (end / 188) h.work h.piece in
      let fit = printed_fit (end / 188) h.work h.piece in
      let enough = fits.room in
      let room : 0 + length lines ≤ length t.bytes = omega arith in
      let written = is_written (emptied t) lines room in
      record {
        turn =
            same_turn true (piece_work h.work h.piece h.kept size inside) (piece_kept h.work h.piece h.kept size inside)
            (written.text ∙ piece_lines h.work h.piece h.kept size inside);
        rest = omega arith;
      }

  abbrev kept : List ℕ
  kept = take h.kept h.piece

  last_turn : IsTurn h End (ended_of h t)
  last_turn = go (ltb 0 h.kept) refl
    where
      size : length kept ≡ h.kept
      size = let enough = fits.packet in length-take-le h.kept h.piece (omega arith)

      go : (b : Bool) → ltb 0 h.kept ≡ b → IsTurn h End (ended_of h t)
      go true e =
          let is_cut : ltb 0 (length kept) ≡ true = ap (λ (k : ℕ). ltb 0 k) size ∙ e in
          let fit = lines_fit h.work kept in
          let packet = fits.packet in
          let enough = fits.room in
          let room : 0 + length (next_lines h.work kept) ≤ length t.bytes = omega arith in
          rw e (record { turn = same_turn false (rw is_cut refl) refl ((is_written (emptied t) (next_lines h.work kept) room).text ∙ rw is_cut refl); rest = omega arith })
      go false e =
          let is_whole : ltb 0 (length kept) ≡ false = ap (λ (k : ℕ). ltb 0 k) size ∙ e in
          rw e (record { turn = same_turn false (rw is_whole refl) refl (rw is_whole refl); rest = omega arith })

  pub is_turn : (brought : Brought) → EndsIn brought h.kept h.piece → IsTurn h brought (piece_of h brought t)
  is_turn (Bytes size) inside =
      let end : min (h.kept + size) (length h.piece) ≡ h.kept + size = omega arith in
      rw end (more_turn size inside)
  is_turn End inside = last_turn
  is_turn Failure inside = record { turn = refl; rest = short }
