-- Two outcomes are one: a promise that is an equation determines its outcome.
-- Assumes nothing.
use mathlib.Core.Path.{◌≡◌, ◌∙◌, sym, ap}
use Rattle.ground.specs.Outcome.{Determined, Stated}

-- cited for every public call: what the call promises is `outcome ≡ definition`
pub determined {ℓ} : {A : Type ℓ} (definition : A) → Determined (λ (outcome : A). outcome ≡ definition)
determined definition x y p q = p ∙ sym q

-- the same where the promise goes through what an outcome tells, and nothing of the outcome is left untold
pub determined_told {ℓ} : {A B : Type ℓ} (told : A → B) (made : B → A) → ((a : A) → made (told a) ≡ a) → (definition : B)
    → Determined (λ (outcome : A). told outcome ≡ definition)
determined_told told made back definition x y p q = sym (back x) ∙ ap made (p ∙ sym q) ∙ back y

-- a function that states something has one answer
pub stated : (S : Type 0) → Determined (Stated S)
stated S x y p q = p.0 ∙ sym q.0
