-- A rule of a table, proved at all of its entries by one test that is computed, one entry after the other.
-- Assumes nothing.
use mathlib.Core.Path.{◌≡◌, sym, ◌∙◌, ap}
use mathlib.Core.Bool.{Bool, true, ◌&&◌}
use mathlib.Core.List.{List, [], ◌∷◌}
use Prim.Native.Nat.{ℕ, zero, suc, ◌+◌, ◌<◌}
use native.Mathlib.Nat.{add-zero, zero-add, add-suc, suc-add, le_of_suc-le-suc, not-suc-le-zero}
use lib.ListN.{length, get_or}
use Rattle.ground.proofs.Test.{both_true}

module _ {ℓ} {A : Type ℓ} (test : ℕ → A → Bool) where
  -- the test passes at each entry of the list and its place, counted from i
  abbrev pub every_entry : ℕ → List A → Bool
  every_entry i [] = true
  every_entry i (x ∷ xs) = test i x && every_entry (suc i) xs

  from : (xs : List A) (d : A) (i : ℕ) → every_entry i xs ≡ true → (k : ℕ) → k < length xs → test (i + k) (get_or xs k d) ≡ true
  from [] d i e k h = absurd (not-suc-le-zero h)
  from (x ∷ xs) d i e zero h = ap (λ (m : ℕ). test m x) (add-zero i) ∙ (both_true (test i x) (every_entry (suc i) xs) e).0
  from (x ∷ xs) d i e (suc k) h =
      ap (λ (m : ℕ). test m (get_or xs k d)) (add-suc i k ∙ sym (suc-add i k))
      ∙ from xs d (suc i) (both_true (test i x) (every_entry (suc i) xs) e).1 k (le_of_suc-le-suc h)

  pub entry_at : (xs : List A) (d : A) → every_entry 0 xs ≡ true → (k : ℕ) → k < length xs → test k (get_or xs k d) ≡ true
  entry_at xs d e k h = ap (λ (m : ℕ). test m (get_or xs k d)) (sym (zero-add k)) ∙ from xs d 0 e k h
