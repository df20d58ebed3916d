-- Document 01, "Examples": a piece of the listing's input, as it lies in memory between two reads.
use Rattle.std.specs.Prelude.{ℕ, ◌+◌, ◌-◌, ◌/◌, ◌%◌, min, Bool, true, false, cond, List, [], ◌∷◌, length, take, drop, nat_lt}
use Rattle.ground.specs.House.{packet_bytes}
use Rattle.ground.specs.Write.{put}
use Rattle.state.specs.State.{fresh}
use Rattle.state.specs.declared.Choice.TheVariants.{All}
use Rattle.open_call.specs.Open.{open_of}
use Rattle.text.specs.Text.{Text, told_text, emptied, with_bytes}
use Rattle.text.specs.declared.Text as text_code
use Rattle.pieces.specs.Input.{Work, after_call, next_lines, after_calls, printed}
use Rattle.pieces.specs.declared.packets.Work as work_code
use Rattle.pieces.specs.declared.reads.Piece as piece_code
use Rattle.pieces.specs.declared.reads.Step.{Step}
use Rattle.pieces.specs.declared.reads.Brought.{Brought}
use Rattle.pieces.specs.declared.reads.Brought.TheVariants.{Bytes, End, Failure}

-- what the code holds
abbrev pub told_work : work_code.Work → Work
told_work w =
    record {
      state = w.progress.state;
      index = w.progress.index;
      store = w.store.now;
      out = w.out.now;
      sets = w.sets.now;
      loans = w.store.ghost_name ∷ w.out.ghost_name ∷ w.sets.ghost_name ∷ [];
    }

-- what is held between two reads: the work, the piece, by its loan's name and its bytes, and how many of these are kept
pub record Held : Type 0 where
  pub work : Work
  pub loan : ℕ
  pub piece : List ℕ
  pub kept : ℕ

abbrev pub told_held : piece_code.Piece → work_code.Work → Held
told_held p w = record { work = told_work w; loan = p.bytes.ghost_name; piece = p.bytes.now; kept = p.kept }

-- the beginning: a filter for all tables is open on PID 0, no packet came, and nothing was read
abbrev pub beginning : Step
beginning = record { progress = record { state = (open_of fresh 0 All).state; index = 0 }; kept = 0 }

-- all that there is after a read was listed, and whether to read on
pub record AfterPiece : Type 0 where
  pub held : Held
  pub text : Text
  pub is_on : Bool

abbrev pub told_read : piece_code.Piece → work_code.Work → text_code.Text → Bool → AfterPiece
told_read p w t is_on = record { held = told_held p w; text = told_text t; is_on = is_on }

-- this work and this text, these bytes of the piece, so many kept at its start, and whether to read on
abbrev pub outcome_of : Held → Work → Text → List ℕ → ℕ → Bool → AfterPiece
outcome_of h w t piece kept is_on = record { held = record { work = w; loan = h.loan; piece = piece; kept = kept }; text = t; is_on = is_on }

-- the piece's bytes up to their end: each whole packet is called, its lines are printed in an empty text, and what is left is moved to the start
abbrev pub more_of : Held → ℕ → Text → AfterPiece
more_of h end t =
    let whole = end / packet_bytes in
    let rest = end % packet_bytes in
    outcome_of h (after_calls whole h.work h.piece) (with_bytes (emptied t) (printed whole h.work h.piece))
    (put h.piece 0 (take rest (drop (end - rest) h.piece))) rest true

-- the end of the input: bytes that are no whole packet are called as they are
abbrev pub ended_of : Held → Text → AfterPiece
ended_of h t =
    let kept = take h.kept h.piece in
    cond (nat_lt 0 h.kept) (outcome_of h (after_call h.work kept) (with_bytes (emptied t) (next_lines h.work kept)) h.piece 0 false)
    (outcome_of h h.work (emptied t) h.piece 0 false)

-- what a read brought, listed in an empty text; an error leaves all as it was
abbrev pub piece_of : Held → Brought → Text → AfterPiece
piece_of h (Bytes size) t = more_of h (min (h.kept + size) (length h.piece)) t
piece_of h End t = ended_of h t
piece_of h Failure t = outcome_of h h.work (emptied t) h.piece h.kept false
