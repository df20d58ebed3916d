-- What was listed so far, and one turn more; no buffer changes its length.
-- Assumes nothing.
use mathlib.Core.Path.{refl}
use mathlib.Core.Bool.{true}
use native.Mathlib.Omega.{arith}
use Rattle.pieces.specs.Piece.{told_held}
use Rattle.pieces.specs.Turns.{between_of}
use Rattle.listing.proofs.Turns.{lists_none, lists_on}
use Rattle.listing.proofs.list_all.Goals as goal

pub loop-init : goal.loop-init
loop-init c =
    let a = c.args in
    let none = c.requires.begun.kept in
    record {
      fits = c.requires.fits;
      short = rw none (omega arith);
      listed = lists_none (between_of (told_held a.piece.now a.work.now)) true (rw none (omega arith));
    }

pub returns-then-not-read_and_list : goal.returns-then-not-read_and_list
returns-then-not-read_and_list c = lists_on _ _ true _ refl c.loop.invariant.listed c.if-not-read_and_list.ensures.takes_turn

pub loop-preserved : goal.loop-preserved
loop-preserved c =
    let turn = c.if-not-read_and_list.ensures in
    record { fits = turn.still_fits; short = turn.rest_stays_short; listed = lists_on _ _ true _ refl c.loop.invariant.listed turn.takes_turn }
