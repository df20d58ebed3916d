-- A write of bytes into a list at a place: everything else is as before.
use Rattle.std.specs.Prelude.{◌≡◌, List, ◌++◌, ℕ, ◌+◌, length, take, drop}

module _ {ℓ} {A : Type ℓ} where
  unfoldable pub put : List A → ℕ → List A → List A
  put d at s = take at d ++ (s ++ drop (at + length s) d)

  -- A list has its length, and from a place on what stood there, as it was lent
  pub record Rest (from : ℕ) (lent after : List A) : Type ℓ where
    pub long : length after ≡ length lent
    pub same : drop from after ≡ drop from lent
