-- A loop of a section: what its bytes hold (document 01, Tables).
use Rattle.std.specs.Prelude.{Bool, true, false, List, [], ◌∷◌, ◌++◌, ℕ}

-- what a loop's bytes hold, and whether its items fill it exactly
pub record Loop (A : Type 0) : Type 0 where
  pub fills : Bool
  pub items : List A

-- A loop that is filled, with no item
abbrev pub filled : {A : Type 0} → Loop A
filled = record { fills = true; items = [] }

-- A loop whose items do not fill it
abbrev pub unfilled : {A : Type 0} → Loop A
unfilled = record { fills = false; items = [] }

-- A loop with one item more before the others
abbrev pub onto : {A : Type 0} → A → Loop A → Loop A
onto a l = record { fills = l.fills; items = a ∷ l.items }

-- what items are laid out as, side by side
abbrev pub joined : {A : Type 0} → (A → List ℕ) → List A → List ℕ
joined layout [] = []
joined layout (x ∷ xs) = layout x ++ joined layout xs
