-- Document 01, "Examples": what lies in memory after a read is the turn that the read makes.
use Rattle.std.specs.Prelude.{◌≡◌, ℕ, ◌+◌, ◌*◌, ◌/◌, ◌<◌, ◌≤◌, List, length, take, drop}
use Rattle.ground.specs.House.{packet_bytes}
use Rattle.lines.specs.Lines.{most}
use Rattle.pieces.specs.Input.{Between, Reading, more, ended, failed, Turn, turn_of}
use Rattle.text.specs.Text.{shown}
use Rattle.pieces.specs.Piece.{Held, AfterPiece}
use Rattle.pieces.specs.declared.reads.Brought.{Brought}
use Rattle.pieces.specs.declared.reads.Brought.TheVariants.{Bytes, End, Failure}

-- a piece of whole packets, and a text that has room for the lines of all of them
pub record Fits (piece text : List ℕ) : Type 0 where
  pub packet : packet_bytes ≤ length piece
  pub room : length piece / packet_bytes * most ≤ length text

-- what is held between two reads: the kept bytes are at the piece's start
abbrev pub between_of : Held → Between
between_of h = record { work = h.work; kept = take h.kept h.piece }

-- what is held after a turn: the lines are in the text
abbrev pub turn_in : AfterPiece → Turn
turn_in a = record { between = between_of a.held; lines = shown a.text; is_on = a.is_on }

-- the bytes that were read behind the kept ones end inside the piece
abbrev pub EndsIn : Brought → ℕ → List ℕ → Type 0
EndsIn (Bytes size) rest piece = rest + size ≤ length piece
EndsIn End rest piece = Unit {0}
EndsIn Failure rest piece = Unit {0}

-- what was read behind the kept bytes
abbrev pub reading_of : Brought → ℕ → List ℕ → Reading
reading_of (Bytes size) rest piece = more (take size (drop rest piece))
reading_of End rest piece = ended
reading_of Failure rest piece = failed

-- the turn that what was brought makes, and again less than a packet is kept
pub record IsTurn (h : Held) (brought : Brought) (a : AfterPiece) : Type 0 where
  pub turn : turn_in a ≡ turn_of (between_of h) (reading_of brought h.kept h.piece)
  pub rest : a.held.kept < packet_bytes
