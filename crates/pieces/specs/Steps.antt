-- What the private functions of the crate promise each other; no public promise cites it.
use Rattle.std.specs.Prelude.{◌≡◌, ℕ, List}
use Rattle.text.specs.Text.{Text, with_bytes}
use Rattle.pieces.specs.Input.{Work}

-- the work, and the text with these lines behind it
pub record Lists (w : Work) (lines : List ℕ) (t : Text) (w' : Work) (t' : Text) : Type 0 where
  pub work : w' ≡ w
  pub text : t' ≡ with_bytes t lines
