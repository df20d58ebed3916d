-- What is claimed of the definitions and the promises, and proved.
use Rattle.std.specs.Prelude.{◌≡◌, Bool, ℕ, ◌+◌, ◌*◌, ◌^◌, ◌<◌, List, ◌++◌, drop}
use Rattle.ground.specs.House.{packet_bytes}
use Rattle.ground.specs.Answer.{given}
use Rattle.ground.specs.Outcome.{Determined}
use Rattle.state.specs.State.{fresh}
use Rattle.state.specs.declared.Choice.TheVariants.{All}
use Rattle.open_call.specs.Open.{open_of}
use Rattle.pieces.specs.Input.{Work, next_index, after_calls, printed, Between, after_read, lines_read}
use Rattle.text.specs.Text.{Text}
use Rattle.text.specs.declared.Text as text_code
use Rattle.pieces.specs.Piece.{Held, told_read, piece_of}
use Rattle.pieces.specs.Promises.{Begins, ListsRead}
use Rattle.pieces.specs.Turns.{Fits, EndsIn, IsTurn}
use Rattle.pieces.specs.declared.packets.Work as work_code
use Rattle.pieces.specs.declared.reads.Piece as piece_code
use Rattle.pieces.specs.declared.reads.Brought.{Brought}

-- two outcomes of a read are the same, each value that stands in them or in what is lent to them
pub record IsSame (p : piece_code.Piece) (w : work_code.Work) (t : text_code.Text) (on : Bool) (p' : piece_code.Piece) (w' : work_code.Work) (t' : text_code.Text) (on' : Bool) : Type 0 where
  pub progress : w.progress ≡ w'.progress
  pub store : w.store.now ≡ w'.store.now
  pub out : w.out.now ≡ w'.out.now
  pub sets : w.sets.now ≡ w'.sets.now
  pub piece : p.bytes.now ≡ p'.bytes.now
  pub kept : p.kept ≡ p'.kept
  pub text : t.bytes.now ≡ t'.bytes.now
  pub end : t.end ≡ t'.end
  pub is_on : on ≡ on'

pub record Claims : Type 0 where
  -- any two outcomes that a promise admits are equal
  pub begins : Determined Begins
  pub lists_read : (h : Held) (brought : Brought) (t : Text) → Determined (ListsRead h brought t)
  -- and what is told of an outcome leaves nothing of it untold
  pub told_whole : (p p' : piece_code.Piece) (w w' : work_code.Work) (t t' : text_code.Text) (on on' : Bool)
      → told_read p w t on ≡ told_read p' w' t' on' → IsSame p w t on p' w' t' on'
  -- indices rise by one
  pub rises : (i : ℕ) → i + 1 < 2 ^ 64 → next_index i ≡ i + 1
  -- the filter is open: the open at the beginning is not refused
  pub opens : (open_of fresh 0 All).answer ≡ given (record { number = 1; place = 0 })
  -- however the input is cut into pieces: the work and the lines of m packets and then of n are those of m + n
  pub work_on : (m n : ℕ) (w : Work) (bytes : List ℕ) → after_calls (m + n) w bytes ≡ after_calls n (after_calls m w bytes) (drop (m * packet_bytes) bytes)
  pub lines_on : (m n : ℕ) (w : Work) (bytes : List ℕ)
      → printed (m + n) w bytes ≡ printed m w bytes ++ printed n (after_calls m w bytes) (drop (m * packet_bytes) bytes)
  -- however the input is cut into reads, inside a packet too: the work, the kept bytes and the lines of two reads are those of one read of all their bytes
  pub read_on : (b : Between) (x y : List ℕ) → after_read (after_read b x) y ≡ after_read b (x ++ y)
  pub lines_read_on : (b : Between) (x y : List ℕ) → lines_read b (x ++ y) ≡ lines_read b x ++ lines_read (after_read b x) y
  -- where the text has room, what lies in memory after a read is the turn that the read makes: no byte is lost between two reads
  pub is_turn : (h : Held) (t : Text) → Fits h.piece t.bytes → h.kept < packet_bytes
      → (brought : Brought) → EndsIn brought h.kept h.piece → IsTurn h brought (piece_of h brought t)
