-- Each promise is an equation; the rest is said of the definitions by their laws.
-- Assumes nothing.
use Rattle.std.proofs.Common.{◌≡◌, refl, ap, Bool, mod-eq_of_lt}
use Rattle.ground.specs.Answer.{given}
use Rattle.ground.proofs.Outcome.{determined}
use Rattle.state.specs.State.{fresh}
use Rattle.state.specs.declared.Choice.TheVariants.{All}
use Rattle.sound.specs.Sound.{sound}
use Rattle.open_call.specs.Open.{open_of}
use Rattle.text.specs.declared.Text as text_code
use Rattle.pieces.specs.Claims.{IsSame, Claims}
use Rattle.pieces.specs.Piece.{AfterPiece, told_read, beginning, piece_of}
use Rattle.pieces.specs.declared.packets.Progress.{Progress}
use Rattle.pieces.specs.declared.packets.Work as work_code
use Rattle.pieces.specs.declared.reads.Piece as piece_code
use Rattle.pieces.proofs.Loop.{work_on, lines_on}
use Rattle.pieces.proofs.Cuts.{read_read, lines_lines}
use Rattle.pieces.proofs.Turns.{is_turn}

-- an open for all tables on PID 0 of a fresh state is given
opened : (open_of fresh 0 All).answer ≡ given (record { number = 1; place = 0 })
unfolding open_of sound
opened = refl

told_whole : (p p' : piece_code.Piece) (w w' : work_code.Work) (t t' : text_code.Text) (on on' : Bool)
    → told_read p w t on ≡ told_read p' w' t' on' → IsSame p w t on p' w' t' on'
told_whole p p' w w' t t' on on' e =
    record {
      progress = ap {B = Progress} (λ (a : AfterPiece). record { state = a.held.work.state; index = a.held.work.index }) e;
      store = ap (λ (a : AfterPiece). a.held.work.store) e;
      out = ap (λ (a : AfterPiece). a.held.work.out) e;
      sets = ap (λ (a : AfterPiece). a.held.work.sets) e;
      piece = ap (λ (a : AfterPiece). a.held.piece) e;
      kept = ap (λ (a : AfterPiece). a.held.kept) e;
      text = ap (λ (a : AfterPiece). a.text.bytes) e;
      end = ap (λ (a : AfterPiece). a.text.end) e;
      is_on = ap (λ (a : AfterPiece). a.is_on) e;
    }

pub claims : Claims
claims =
    record {
      begins = determined beginning;
      lists_read = λ h brought t. determined (piece_of h brought t);
      told_whole = told_whole;
      rises = λ i h. mod-eq_of_lt h;
      opens = opened;
      work_on = work_on;
      lines_on = lines_on;
      read_on = read_read;
      lines_read_on = lines_lines;
      is_turn = is_turn;
    }
