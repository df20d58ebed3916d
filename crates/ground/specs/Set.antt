-- A set of places as a number, one bit a place: the first place is the least significant bit.
use Rattle.std.specs.Prelude.{Bool, cond, List, [], ◌∷◌, ℕ, ◌+◌, ◌*◌}
use Rattle.ground.specs.Number.{is_flagged}

-- the places of those that pass
abbrev pub set_of {ℓ} : {A : Type ℓ} → (A → Bool) → List A → ℕ
set_of p [] = 0
set_of p (x ∷ xs) = cond (p x) 1 0 + 2 * set_of p xs

-- a place is in a set
abbrev pub is_in : ℕ → ℕ → Bool
is_in place set = is_flagged set place
