-- What each public call promises.
use Rattle.std.specs.Prelude.{◌≡◌}
use Rattle.text.specs.Text.{Text}
use Rattle.pieces.specs.Piece.{Held, AfterPiece, beginning, piece_of}
use Rattle.pieces.specs.declared.reads.Step.{Step}
use Rattle.pieces.specs.declared.reads.Brought.{Brought}

-- `begin`
abbrev pub Begins : Step → Type 0
Begins r = r ≡ beginning

-- `list_read`: its outcome is what is held, with every byte of the piece, the store, the output and the text and every place of the list after it, and whether to read on
abbrev pub ListsRead : Held → Brought → Text → AfterPiece → Type 0
ListsRead h brought t o = o ≡ piece_of h brought t
