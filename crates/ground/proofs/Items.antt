-- The laws of items one after the other: what an item and what an end give, and one induction.
-- Assumes nothing.
use mathlib.Core.Path.{◌≡◌, refl, ◌∙◌, ap}
use mathlib.Core.List.{List, [], ◌∷◌}
use Prim.Native.Nat.{ℕ, zero, suc, ◌+◌, ◌-◌, ◌<◌}
use native.Mathlib.Nat.{not-suc-le-zero}
use native.Mathlib.Omega.{arith}
use lib.ListN.{length, drop, length-drop}
use Rattle.ground.specs.Items.{Step, takes, ends, onward, items_after, items_from, items}

module _ {A B : Type 0} (onto : A → B → B) (step : ℕ → List ℕ → Step A B) (none : B) where
  -- bytes that are passed are dropped
  passes : (before at : ℕ) (s : List ℕ) → items_after onto step none before at s ≡ items_from onto step none at (drop before s)
  passes zero at s = refl
  passes (suc before) at [] = refl
  passes (suc before) at (x ∷ xs) = passes before at xs

  -- an item and what follows it
  pub items_on : (at : ℕ) (s : List ℕ) (n : ℕ) (a : A) → 0 < length s → 0 < n → step at s ≡ takes n a
      → items_from onto step none at s ≡ onto a (items_from onto step none (at + n) (drop n s))
  items_on at [] n a h some e = absurd (not-suc-le-zero h)
  items_on at (x ∷ xs) zero a h some e = absurd (not-suc-le-zero some)
  items_on at (x ∷ xs) (suc n) a h some e =
      ap (λ (t : Step A B). onward onto t (λ n. items_after onto step none (n - 1) (at + n) xs)) e
      ∙ ap (λ (k : ℕ). onto a (items_after onto step none k (at + suc n) xs)) (omega arith)
      ∙ ap (onto a) (passes n (at + suc n) xs)

  -- the end of the items
  pub items_end : (at : ℕ) (s : List ℕ) (b : B) → 0 < length s → step at s ≡ ends b → items_from onto step none at s ≡ b
  items_end at [] b h e = absurd (not-suc-le-zero h)
  items_end at (x ∷ xs) b h e = ap (λ (t : Step A B). onward onto t (λ n. items_after onto step none (n - 1) (at + n) xs)) e

  -- what holds of no bytes, and of any bytes where it holds of what is left after n of them, holds of what the items give
  module _ (P : ℕ → List ℕ → B → Type 0)
      (at_none : (at : ℕ) → P at [] none)
      (at_step : (at : ℕ) (s : List ℕ) (rest : ℕ → B) → 0 < length s → ((n : ℕ) → 0 < n → P (at + n) (drop n s) (rest n)) → P at s (onward onto (step at s) rest)) where
    -- P holds of what the items of these bytes give
    abbrev Holds : ℕ → List ℕ → Type 0
    Holds at s = P at s (items_from onto step none at s)

    -- where it holds of all shorter bytes it holds of these
    turn : (at : ℕ) (s : List ℕ) → ((k : ℕ) (t : List ℕ) → length t < length s → Holds k t) → Holds at s
    turn at [] shorter = at_none at
    turn at (x ∷ xs) shorter = at_step at (x ∷ xs) (λ n. items_after onto step none (n - 1) (at + n) xs) (omega arith) left
      where
        left : (n : ℕ) → 0 < n → P (at + n) (drop n (x ∷ xs)) (items_after onto step none (n - 1) (at + n) xs)
        left zero h = absurd (not-suc-le-zero h)
        left (suc n) h =
            let less : suc n - 1 ≡ n = omega arith in
            rw (less, passes n (at + suc n) xs) (shorter (at + suc n) (drop n xs) (rw length-drop (omega arith)))

    within : (most at : ℕ) (s : List ℕ) → length s < most → Holds at s
    within zero at s h = absurd (not-suc-le-zero h)
    within (suc most) at s h = turn at s (λ k t l. within most k t (omega arith))

    -- the induction over the items
    pub items_ind : (at : ℕ) (s : List ℕ) → Holds at s
    items_ind at s = within (suc (length s)) at s (omega arith)

-- ---- where the place says nothing
module _ {A B : Type 0} (onto : A → B → B) (step : List ℕ → Step A B) (none : B) where
  -- a step gives the same with the same rest
  same_rest : (t : Step A B) (f g : ℕ → B) → ((n : ℕ) → f n ≡ g n) → onward onto t f ≡ onward onto t g
  same_rest (takes n a) f g same = ap (onto a) (same n)
  same_rest (ends b) f g same = refl

  -- at any two places the items give the same
  anywhere : (before at k : ℕ) (s : List ℕ) → items_after onto (λ at. step) none before at s ≡ items_after onto (λ at. step) none before k s
  anywhere before at k [] = refl
  anywhere zero at k (x ∷ xs) = same_rest (step (x ∷ xs)) _ _ (λ n. anywhere (n - 1) (at + n) (k + n) xs)
  anywhere (suc before) at k (x ∷ xs) = anywhere before at k xs

  -- an item and what follows it
  pub on_items : (s : List ℕ) (n : ℕ) (a : A) → 0 < length s → 0 < n → step s ≡ takes n a → items onto step none s ≡ onto a (items onto step none (drop n s))
  on_items s n a h some e = items_on onto (λ at. step) none 0 s n a h some e ∙ ap (onto a) (anywhere 0 (0 + n) 0 (drop n s))
