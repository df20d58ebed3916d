-- Searching, counting and adding up over a list.
use Rattle.std.specs.Prelude.{Bool, true, cond, ◌&&◌, not, List, [], ◌∷◌, ℕ, suc, ◌+◌}

module _ {ℓ} {A : Type ℓ} where
  -- the index of the first element that passes, or the length where none does
  abbrev pub find : (A → Bool) → List A → ℕ
  find p [] = 0
  find p (x ∷ xs) = cond (p x) 0 (suc (find p xs))

  -- the sum of f over the elements
  abbrev pub total : (A → ℕ) → List A → ℕ
  total f [] = 0
  total f (x ∷ xs) = f x + total f xs

  -- how many elements pass
  abbrev pub count : (A → Bool) → List A → ℕ
  count p = total (λ x. cond (p x) 1 0)

  -- those that pass, in their order
  abbrev pub keep : (A → Bool) → List A → List A
  keep p [] = []
  keep p (x ∷ xs) = cond (p x) (x ∷ keep p xs) (keep p xs)

  -- every element passes
  abbrev pub all : (A → Bool) → List A → Bool
  all p [] = true
  all p (x ∷ xs) = p x && all p xs

  -- no two elements clash
  abbrev pub apart : (A → A → Bool) → List A → Bool
  apart clash [] = true
  apart clash (x ∷ xs) = all (λ y. not (clash x y)) xs && apart clash xs

  -- P holds of every element
  abbrev pub Every : (A → Type 0) → List A → Type 0
  Every P [] = Unit {0}
  Every P (x ∷ xs) = P x × Every P xs
