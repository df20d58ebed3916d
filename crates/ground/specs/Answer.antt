-- What a call answers in document 01's terms: a refusal gives its number alone.
use Rattle.std.specs.Prelude.{ℕ}

pub data Answer {ℓ} (A : Type ℓ) : Type ℓ where
  refused : ℕ → Answer A
  given : A → Answer A
