-- What a store of one element and a write of bytes leave as they were.
-- Assumes nothing.
use mathlib.Core.Path.{◌≡◌, sym, ◌∙◌, ap}
use mathlib.Core.List.{List}
use mathlib.Core.Logic.{◌⊎◌, inl, inr}
use Prim.Native.Nat.{ℕ, ◌+◌, ◌-◌, ◌≤◌, ◌<◌}
use native.Mathlib.Decide.{ℕ_discrete}
use native.Mathlib.Omega.{arith}
use lib.ListN.{length, get_or, take, drop, set, length-take, length-drop}
use lib.Seq.{get_or-set_same, get_or-set_other, drop-drop, get_or-take, get_or-drop, ext_get_or}
use Rattle.ground.specs.Write.{put}
use Rattle.ground.proofs.Write.{length-put, get_d_before, after_put}

-- what a store does not change of its own element it changes of none
pub unseen {ℓ ℓ'} : {A : Type ℓ} {B : Type ℓ'} (see : A → B) (l : List A) (i : ℕ) (x d : A) → i < length l → see x ≡ see (get_or l i d)
    → (j : ℕ) → see (get_or (set l i x) j d) ≡ see (get_or l j d)
unseen see l i x d h e j = go (ℕ_discrete j i)
  where
    go : Dec (j ≡ i) → see (get_or (set l i x) j d) ≡ see (get_or l j d)
    go (yes r) = rw r (ap see (get_or-set_same l i x d h) ∙ e)
    go (no n) = ap see (get_or-set_other l i j x d n)

module _ {ℓ} {A : Type ℓ} (d : List A) (at : ℕ) (s : List A) (h : at + length s ≤ length d) where
  -- a part before or after a write is as before
  pub part_apart : (z : A) (from n : ℕ) → (from + n ≤ at) ⊎ (at + length s ≤ from) → take n (drop from (put d at s)) ≡ take n (drop from d)
  part_apart z from n (inl b) = ext_get_or z (take n (drop from (put d at s))) (take n (drop from d)) size each
    where
      size : length (take n (drop from (put d at s))) ≡ length (take n (drop from d))
      size = simp (length-take, length-drop, length-put d at s h)

      each : (i : ℕ) → i < length (take n (drop from (put d at s))) → get_or (take n (drop from (put d at s))) i z ≡ get_or (take n (drop from d)) i z
      each i l =
          let short : i < n = let m = rw length-take at l in omega arith in
          get_or-take n (drop from (put d at s)) i z short
          ∙ get_or-drop from (put d at s) i z
          ∙ get_d_before d at s h (from + i) z (omega arith)
          ∙ sym (get_or-drop from d i z)
          ∙ sym (get_or-take n (drop from d) i z short)
  part_apart z from n (inr a) =
      let k = from - (at + length s) in
      let e : at + length s + k ≡ from = omega arith in
      ap (take n)
      (ap (λ (m : ℕ). drop m (put d at s)) (sym e)
      ∙ sym (drop-drop k (at + length s) (put d at s))
      ∙ ap (drop k) (after_put d at s h)
      ∙ drop-drop k (at + length s) d
      ∙ ap (λ (m : ℕ). drop m d) e)
