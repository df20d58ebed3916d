-- Document 01, "Examples": the listing program's loop over its reads, whatever they bring.
use Rattle.std.specs.Prelude.{◌≡◌, Bool, true, false, cond, List, ℕ, take}
use Rattle.state.specs.State.{fresh}
use Rattle.state.specs.declared.Choice.TheVariants.{All}
use Rattle.open_call.specs.Open.{open_of}
use Rattle.pieces.specs.Input.{Between, Reading, Turn, turn_of, after_read, after_end}
use Rattle.pieces.specs.Piece.{Held}
use Rattle.pieces.specs.Turns.{EndsIn}
use Rattle.pieces.specs.declared.reads.Brought.{Brought}

-- a read behind the kept bytes leaves them as they are
pub record ReadsBehind (rest : ℕ) (piece : List ℕ) (r : Brought) (piece' : List ℕ) : Type 0 where
  pub kept : take rest piece' ≡ take rest piece
  pub ends : EndsIn r rest piece'

-- the beginning: a filter for all tables is open on PID 0, no packet came, and nothing was read
pub record IsBegun (h : Held) : Type 0 where
  pub state : h.work.state ≡ (open_of fresh 0 All).state
  pub index : h.work.index ≡ 0
  pub kept : h.kept ≡ 0

-- a turn, whatever its read brings
pub record TakesTurn (b : Between) (t : Turn) : Type 0 where
  pub reading : Reading
  pub between : t.between ≡ (turn_of b reading).between
  pub lines : t.lines ≡ (turn_of b reading).lines
  -- it reads on only where this read brought bytes
  pub is_on : t.is_on ≡ true → (turn_of b reading).is_on ≡ true

-- the loop, whatever its reads bring: all bytes that were read, one behind the other, were listed, and at their end what was left
pub record ListsInput (b b' : Between) (is_on : Bool) : Type 0 where
  pub input : List ℕ
  pub is_ended : Bool
  pub between : b' ≡ cond is_ended (after_end (after_read b input)) (after_read b input)
  -- while it reads on, the input has not ended
  pub goes_on : is_on ≡ true → is_ended ≡ false
