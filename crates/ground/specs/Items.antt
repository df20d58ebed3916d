-- Items that stand one after the other in some bytes, each as long as its own start says.
use Rattle.std.specs.Prelude.{List, [], ◌∷◌, ℕ, zero, suc, ◌+◌, ◌-◌}

-- What stands at the start of some bytes: an item of n bytes, at least one, after which the next stands; or the end of the items, and what that gives
pub data Step (A B : Type 0) : Type 0 where
  takes : ℕ → A → Step A B
  ends : B → Step A B

module _ {A B : Type 0} (onto : A → B → B) where
  -- What a step gives: an item goes onto what the bytes after its n give
  abbrev pub onward : Step A B → (ℕ → B) → B
  onward (takes n a) rest = onto a (rest n)
  onward (ends b) rest = b

  -- `step` says what stands first in some bytes that start at a place, and no bytes give `none`
  module _ (step : ℕ → List ℕ → Step A B) (none : B) where
    -- What the items from the place `at` on give, where so many bytes that stand before it are still to be passed
    abbrev pub items_after : ℕ → ℕ → List ℕ → B
    items_after before at [] = none
    items_after zero at (x ∷ xs) = onward (step at (x ∷ xs)) (λ n. items_after (n - 1) (at + n) xs)
    items_after (suc before) at (x ∷ xs) = items_after before at xs

    -- What the items give of bytes that start at the place `at`
    abbrev pub items_from : ℕ → List ℕ → B
    items_from at bytes = items_after 0 at bytes

  -- The same where the place says nothing
  abbrev pub items : (List ℕ → Step A B) → B → List ℕ → B
  items step none bytes = items_from (λ at. step) none 0 bytes
