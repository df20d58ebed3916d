-- What may be missing is there exactly where the test holds, and is then what was put there.
-- Assumes nothing.
use mathlib.Core.Path.{◌≡◌, refl, subst}
use mathlib.Core.Bool.{Bool, true, false, cond, false≢true}
use mathlib.Core.Logic.{◌↔◌}
use Prim.Native.Nat.{ℕ, ◌<◌}
use native.Mathlib.Omega.{arith}
use Rattle.std.specs.declared.option.Option.{Option}
use Rattle.std.specs.Prelude.{Some, None}
use Rattle.ground.specs.Perhaps.{perhaps, presence}

module _ {A : Type 0} where
  -- what is missing is not there
  pub none_there : (y : A) → None ≡ Some y → ⊥
  none_there y e = let z : ◌≡◌ {A = ℕ} 0 1 = cc in omega arith

  -- what holds of what was put there holds of what is there
  pub if_there : (P : A → Type 0) (b : Bool) (x : A) → P x → (y : A) → perhaps b x ≡ Some y → P y
  if_there P true x p y e = let same : x ≡ y = cc in subst P same p
  if_there P false x p y e = absurd (none_there y e)

  pub presence_of : (b : Bool) (x : A) → presence (perhaps b x) ≡ cond b 1 0
  presence_of true x = refl
  presence_of false x = refl

  pub presence_lt : (y : Option A) → presence y < 2
  presence_lt (Some x) = omega arith
  presence_lt None = omega arith

  pub presence_exactly : (b : Bool) (x : A) → (presence (perhaps b x) ≡ 1) ↔ (b ≡ true)
  presence_exactly true x = (λ e. refl, λ e. refl)
  presence_exactly false x = (λ e. absurd (omega arith), λ e. absurd (false≢true e))
