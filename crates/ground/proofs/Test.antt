-- What a test made of others tells, and what it takes to pass it.
-- Assumes nothing.
use mathlib.Core.Path.{◌≡◌, refl, sym}
use mathlib.Core.Bool.{Bool, true, false, cond, not, ◌&&◌, ◌||◌, false≢true}

pub both_true : (a b : Bool) → (a && b) ≡ true → (a ≡ true) × (b ≡ true)
both_true true b e = (refl, e)
both_true false b e = absurd (false≢true e)

pub true_both : (a b : Bool) → a ≡ true → b ≡ true → (a && b) ≡ true
true_both a b p q = rw (p, q)

-- neither of two
pub neither : (a b : Bool) → (a || b) ≡ false → (a ≡ false) × (b ≡ false)
neither true b e = absurd (false≢true (sym e))
neither false b e = (refl, e)

pub and_false : (b : Bool) → (b && false) ≡ false
and_false true = refl
and_false false = refl

-- three fail where two of them do
pub two_of_three : (a b c : Bool) → (a && b) ≡ false → (a && (b && c)) ≡ false
two_of_three true b c e = rw e
two_of_three false b c e = refl

-- what is chosen where both are the same
pub either_way {ℓ} : {A : Type ℓ} (b : Bool) (x : A) → cond b x x ≡ x
either_way true x = refl
either_way false x = refl

-- a test turned over chooses the other way round
pub turned_over {ℓ} : {A : Type ℓ} (b : Bool) (x y : A) → cond b x y ≡ cond (not b) y x
turned_over true x y = refl
turned_over false x y = refl
