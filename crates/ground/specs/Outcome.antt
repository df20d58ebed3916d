-- What a promise determines.
use Rattle.std.specs.Prelude.{◌≡◌, Bool, true}

-- any two outcomes that a promise admits are equal
abbrev pub Determined {ℓ} : {A : Type ℓ} → (A → Type ℓ) → Type ℓ
Determined {A = A} Promise = (x y : A) → Promise x → Promise y → x ≡ y

-- what a function promises that answers true, and with it a statement
abbrev pub Stated : Type 0 → Bool → Type 0
Stated S r = (r ≡ true) × S
