-- An answer that is given is no refusal, and an answer has one value.
-- Assumes nothing.
use mathlib.Core.Path.{◌≡◌}
use Prim.Native.Nat.{ℕ}
use native.Mathlib.Omega.{arith}
use Rattle.ground.specs.Answer.{Answer, refused, given}

module _ {ℓ} {A : Type ℓ} where
  pub given_apart : {x : A} {n : ℕ} → given x ≡ refused n → ⊥
  given_apart e = let z : ◌≡◌ {A = ℕ} 0 1 = cc in omega arith

  pub given_same : {x y : A} → given x ≡ given y → x ≡ y
  given_same e = cc

  pub refused_same : {m n : ℕ} → ◌≡◌ {A = Answer A} (refused m) (refused n) → m ≡ n
  refused_same e = cc
