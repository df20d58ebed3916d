-- What was listed so far, and one turn more; no buffer changes its length.
-- Assumes nothing.
use mathlib.Core.Bool.{true}
use Prim.Native.Nat.{◌<◌}
use Rattle.pieces.specs.Piece.{told_held}
use Rattle.pieces.specs.Turns.{Fits, between_of}
use Rattle.listing.specs.Listing.{ListsInput}
use Rattle.listing.proofs.list_all.Given as goal

abbrev pub invariant-loop : goal.invariant-loop
invariant-loop l =
    record {
      fits : Fits l.piece.bytes.now l.text.bytes.now;
      short : l.piece.kept < 188;
      listed : ListsInput (between_of (told_held l.initial.piece l.initial.work)) (between_of (told_held l.piece l.work)) true;
    }
